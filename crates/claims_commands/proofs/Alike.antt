-- BK's commands that are alike outside the characters of the PIN block are read alike, and their responses open alike.
-- Assumes nothing.
use Prim.Native.Nat.{ℕ, ◌+◌, ◌≤◌}
use native.Mathlib.Omega.{arith}
use mathlib.Core.Path.{◌≡◌, sym, ap, ◌∙◌}
use mathlib.Core.List.{List}
use lib.ListN.{get_or, take}
use lib.Seq.{take-take, get_or-take}
use Rattle.frame.specs.Frame.{opening}
use Rattle.keyfields.specs.declared.Keys.{Keys}
use Rattle.sealed.specs.declared.Sealed.{Sealed}
use Rattle.bkfields.specs.BkFields.{bk_fields}
use Rattle.bkfields.specs.declared.Bk.{Bk}
use Rattle.claims_alike.proofs.Alike as any
use Rattle.claims_commands.specs.Claims.{ReadAlike}
use Rattle.claims_commands.proofs.Listing.{bk_layout}

pub read_alike : ReadAlike
unfolding bk_fields
read_alike restricted s t at p q past past' e e' alike = (any.read_alike 16 Keys Sealed Bk (List ℕ) (bk_layout restricted) s t at p q past past' e e' alike).same

-- ---- the frame

-- the response's header, code and number: what stands before the block
pub opening_alike : (header number block : ℕ) (s t : List ℕ) → header + 2 ≤ block → take block s ≡ take block t → opening header s number ≡ opening header t number
unfolding opening
opening_alike header number block s t h alike =
    let head : take header s ≡ take header t = sym (take-take header block s (omega arith)) ∙ ap (take header) alike ∙ take-take header block t (omega arith) in
    let at : (i : ℕ) → i + 1 ≤ block → get_or s i 0 ≡ get_or t i 0 = λ i l. sym (get_or-take block s i 0 (omega arith)) ∙ ap (λ (l : List ℕ). get_or l i 0) alike ∙ get_or-take block t i 0 (omega arith) in
    let one = at header (omega arith) in
    let two = at (header + 1) (omega arith) in
    rw (head, one, two)
