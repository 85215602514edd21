-- The reader of the maximum PIN length is exact.
-- Assumes nothing.
use Prim.Native.Nat.{ℕ}
use native.Mathlib.Omega.{arith}
use mathlib.Core.Path.{◌≡◌, refl, ap, ◌∙◌}
use mathlib.Core.List.{◌++◌}
use Rattle.numbers.specs.declared.Refusal.TheVariants.{Field15}
use Rattle.fields.specs.Fields.{number}
use Rattle.texts.specs.Texts.{as_two_digits}
use Rattle.texts.specs.Exact.{Exact}
use Rattle.texts.specs.Writings.{numbers}
use Rattle.texts.proofs.Closing.{apart_of}
use Rattle.texts.proofs.Readers.{number_exact}
use Rattle.texts_data.specs.DataWritings.{maxima}

-- a number from 12 to 12
from_to : Exact (number 12 12 Field15) (numbers 12 12)
from_to = number_exact 12 12 Field15 (omega arith)

pub maximum_exact : Exact (number 12 12 Field15) maxima
maximum_exact = record {
  back = λ p rest g. from_to.back 12 rest (omega arith, omega arith);
  only = λ cs v n e.
      let o = from_to.only cs v n e in
      let twelve : o.part ≡ 12 = omega (arith, o.good.0, o.good.1) in
      record { part = tt; rest = o.rest; good = tt; whole = o.whole ∙ ap (λ (v : ℕ). as_two_digits v ++ o.rest) twelve; count = o.count; same = o.same ∙ twelve };
  apart = apart_of (number 12 12 Field15) maxima (λ p rest g. from_to.back 12 rest (omega arith, omega arith)) (λ p q rest rest' g h e v. refl);
}
