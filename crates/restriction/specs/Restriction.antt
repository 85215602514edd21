-- The pairs of formats that are permitted.
use Rattle.std.specs.Prelude.{Bool, true, false, ◌||◌}
use Rattle.formats.specs.Formats.{is01or47}
use Rattle.formats.specs.declared.Format.{Format}
use Rattle.formats.specs.declared.Format.TheVariants.{F01, F03, F05, F34, F35, F47}

-- whether it is format 05
abbrev pub is05 : Format → Bool
is05 F01 = false
is05 F03 = false
is05 F05 = true
is05 F34 = false
is05 F35 = false
is05 F47 = false

-- "Restricted: 05 to 01, 47, 05; 01 and 47 to 01, 47; every other built pair is 69"
abbrev pub restricted_pair : Format → Format → Bool
restricted_pair F01 to = is01or47 to
restricted_pair F03 to = false
restricted_pair F05 to = is01or47 to || is05 to
restricted_pair F34 to = false
restricted_pair F35 to = false
restricted_pair F47 to = is01or47 to

-- "Unrestricted: all pairs of the six"
abbrev pub permitted : Bool → Format → Format → Bool
permitted true from to = restricted_pair from to
permitted false from to = true
