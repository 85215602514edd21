-- `cipherfunction::f` meets its contract.
use Prim.Native.Nat.{◌^◌, ◌<◌}
use native.Mathlib.Omega.{arith}
use Rattle.bits.proofs.Xor.{xor_assoc}
use Rattle.cipherfunction.proofs.Eight.{f_is}
use Rattle.cipherfunction.proofs.f.Goals as goal

pub returns : goal.returns
returns c =
    let a = c.args in
    let h : a.r < 2 ^ 32 = omega (arith, c.ranges) in
    simp xor_assoc (f_is a.r a.k c.edges-y.result h c.edges-y.ensures _ _ _ _ _ _ _ _
    c.boxed.ensures c.boxed-2.ensures c.boxed-3.ensures c.boxed-4.ensures c.boxed-5.ensures c.boxed-6.ensures c.boxed-7.ensures c.boxed-8.ensures)
