-- The tables against their rules, computed.
-- Assumes nothing.
use mathlib.Core.Path.{refl}
use Rattle.nibbles.specs.Nibbles.{every}
use Rattle.bits.specs.Nibbled.{from}
use Rattle.fips46.specs.Fips46.{IP, E, P, PC1, PC2, shifts}
use Rattle.claims_ciphers.specs.Tables.{IpRule, ERule, PRule, Pc1Rule, Pc2Rule, ShiftsRule}

pub ip_rule : IpRule
unfolding IP from
ip_rule = refl

pub e_rule : ERule
unfolding E from
e_rule = refl

pub p_rule : PRule
unfolding P from
p_rule = (refl, refl)

pub pc1_rule : Pc1Rule
unfolding PC1 from
pc1_rule = refl

pub pc2_rule : Pc2Rule
unfolding PC2 from every
pc2_rule = (refl, refl, refl, refl)

pub shifts_rule : ShiftsRule
unfolding shifts from
shifts_rule = (refl, refl)
