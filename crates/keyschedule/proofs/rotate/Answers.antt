-- `keyschedule::rotate` meets its contract.
use Prim.Native.Nat.{ℕ, ◌+◌, ◌-◌, ◌*◌, ◌/◌, ◌%◌, ◌^◌, ◌<◌}
use native.Mathlib.Omega.{arith}
use mathlib.Core.Path.{◌≡◌, ap}
use lib.Pow.{shl_exact}
use Rattle.fips46.specs.Fips46.{rotated}
use Rattle.keyschedule.proofs.Schedule.{rotated_lt}
use Rattle.keyschedule.proofs.rotate.Goals as goal

pub returns : goal.returns
returns c =
    let a = c.args in
    let s : a.c * 2 ^ a.n % 2 ^ 64 ≡ a.c * 2 ^ a.n = shl_exact 28 a.n 64 c.requires.0 (omega arith) in
    let h : rotated a.n a.c < 2 ^ 28 = rotated_lt a.n a.c c.requires.0 c.requires.1 c.requires.2 in
    (ap (λ (x : ℕ). x % 2 ^ 28 + a.c / 2 ^ (28 - a.n)) s, rw s h)
