-- What a call within did, as the server sees it.
-- Assumes nothing.
use mathlib.Core.Path.{◌≡◌, sym, ◌∙◌, subst}
use mathlib.Core.List.{List}
use Rattle.numbers.specs.Promise.{Said, Does}
use Rattle.numbers.specs.declared.Reply.{Reply}
use Rattle.fields.specs.declared.Pointer.{Pointer}
use Rattle.face.specs.declared.FaceReply.{FaceReply}
use Rattle.face.specs.Face.{reply_in, pointer_in}

-- the reply holds what was replied, and points where it was said; what was said may have another name
pub faced : {A : Type 0} (w : FaceReply) {said said' : Said A} {before after : List A} {r : Reply} {at at' : Pointer}
    → said ≡ said' → at ≡ at' → Does said before r after → (reply_in w ≡ r) × (pointer_in w ≡ at)
    → Does said' before (reply_in w) after × (pointer_in w ≡ at')
faced {A} w {said} {said'} {before} {after} {r} e f d (h, p) =
    (subst (λ (x : Reply). Does said' before x after) (sym h) (subst (λ (x : Said A). Does x before r after) e d), p ∙ f)
