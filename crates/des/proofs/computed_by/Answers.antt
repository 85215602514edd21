-- `des::computed_by` meets its contract.
use native.Mathlib.Omega.{arith}
use mathlib.Core.Path.{◌≡◌, ap, ◌∙◌}
use Rattle.bits.specs.Select.{select}
use Rattle.fips46.specs.Fips46.{IP, IP⁻¹, f, halves, whole, interchanged, iterations, computed}
use Rattle.fips46.specs.declared.Halves.{Halves}
use Rattle.des.proofs.computed_by.Goals as goal

-- written out: initial_permutation_left_out falls by it
pub returns : goal.returns
unfolding computed
returns c =
    let a = c.args in
    let start : c.parted.result ≡ halves (select 64 IP a.w) = c.parted.ensures ∙ ap halves (omega arith) in
    c.inverse.ensures
    ∙ ap (select 64 IP⁻¹) (c.preoutput.ensures ∙ ap (λ (h : Halves). whole (interchanged h)) (c.onward.ensures ∙ ap (iterations f a.ks.now) start))
