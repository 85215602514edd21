-- The law of each shape of a contract: what it says settles the answer and what a lent buffer holds at exit.
-- Assumes nothing.
use Prim.Native.Nat.{ℕ, zero, suc}
use mathlib.Core.Path.{◌≡◌, sym, refl, ap, ap₂, ◌∙◌}
use mathlib.Core.List.{List}
use Rattle.numbers.specs.Promise.{Said, Does}
use Rattle.numbers.specs.declared.Reply.{Reply}
use Rattle.numbers.proofs.Laws.{once}
use Rattle.fields.specs.declared.Pointer.{Pointer}
use Rattle.responses.specs.declared.Told.{Told}
use Rattle.face.specs.Face.{reply_in, pointer_in}
use Rattle.face.specs.declared.FaceReply.{FaceReply}

-- the ending where the last parameter is a lent buffer: nothing for the k parameters before it, and its list
abbrev Ends : ℕ → Type 0 → Type 0
Ends zero A = A × Unit {0}
Ends (suc k) A = Unit {0} × Ends k A

abbrev ending : {A : Type 0} (k : ℕ) → A → Ends k A
ending zero b = (b, tt)
ending (suc k) b = (tt, ending k b)

-- an answer that equals a definition, and no lent buffer
pub settled : {A E : Type 0} {d r r' : A} {e : E} → r ≡ d → r' ≡ d → (r ≡ r') × (e ≡ e)
settled p q = (p ∙ sym q, refl)

-- so where a fact is promised beside it
pub settled_beside : {A E F : Type 0} {d r r' : A} {e : E} → (r ≡ d) × F → (r' ≡ d) × F → (r ≡ r') × (e ≡ e)
settled_beside {e = e} p q = settled {e = e} p.0 q.0

-- a buffer that equals a definition, as a whole, and no answer
pub left : {A : Type 0} {d b b' : A} {u : Unit {0}} (k : ℕ) → b ≡ d → b' ≡ d → (u ≡ u) × (ending k b ≡ ending k b')
left k p q = (refl, ap (ending k) (p ∙ sym q))

-- number and count are all that a reply has
pub replied : {n w : ℕ} {r r' : Reply} {E : Type 0} {e : E} → (r.number ≡ n) × (r.written ≡ w) → (r'.number ≡ n) × (r'.written ≡ w) → (r ≡ r') × (e ≡ e)
replied p q = (ap₂ (λ (n w : ℕ). record { number = n; written = w }) (p.0 ∙ sym q.0) (p.1 ∙ sym q.1), refl)

-- what a call says settles its reply and every element of the buffer
pub answered : {A : Type 0} {said : Said A} {before b b' : List A} {r r' : Reply} (k : ℕ) → Does said before r b → Does said before r' b' → (r ≡ r') × (ending k b ≡ ending k b')
answered k p q = ((once p q).0, ap (ending k) (once p q).1)

-- a call that is lent no buffer
pub verdict : {A E : Type 0} {said : Said A} {before after : List A} {r r' : Reply} {e : E} → Does said before r after → Does said before r' after → (r ≡ r') × (e ≡ e)
verdict p q = ((once p q).0, refl)

-- reply and pointer are all that a command's call tells
abbrev told_as : Reply → Pointer → Told
told_as r p = record { reply = r; pointer = p }

pub told : {A : Type 0} {said : Said A} {at : Pointer} {before b b' : List A} {r r' : Told} (k : ℕ)
    → Does said before r.reply b × (r.pointer ≡ at) → Does said before r'.reply b' × (r'.pointer ≡ at) → (r ≡ r') × (ending k b ≡ ending k b')
told k (p, f) (q, g) = (ap₂ told_as (once p q).0 (f ∙ sym g), ap (ending k) (once p q).1)

pub told_refused : {n w : ℕ} {at : Pointer} {r r' : Told} {E : Type 0} {e : E}
    → (r.reply.number ≡ n) × (r.reply.written ≡ w) × (r.pointer ≡ at) → (r'.reply.number ≡ n) × (r'.reply.written ≡ w) × (r'.pointer ≡ at) → (r ≡ r') × (e ≡ e)
told_refused {e = e} (n, w, f) (n', w', g) = (ap₂ told_as (replied {e = e} (n, w) (n', w')).0 (f ∙ sym g), refl)

-- number, count, place and field are all that a reply of the C face has
wide : (w w' : FaceReply) → reply_in w ≡ reply_in w' → pointer_in w ≡ pointer_in w' → w ≡ w'
wide w w' p f = ap₂ (λ (r : Reply) (at : Pointer). record { number = r.number; written = r.written; place = at.place; field = at.field }) p f

pub faces : {E : Type 0} {reply : Reply} {at : Pointer} {w w' : FaceReply} {e : E} → (reply_in w ≡ reply) × (pointer_in w ≡ at) → (reply_in w' ≡ reply) × (pointer_in w' ≡ at) → (w ≡ w') × (e ≡ e)
faces {w = w} {w' = w'} (p, f) (q, g) = (wide w w' (p ∙ sym q) (f ∙ sym g), refl)

-- what a call says and where it points settle the wider reply, and every element of the buffer
pub widely : {A : Type 0} {said : Said A} {at : Pointer} {before b b' : List A} {w w' : FaceReply} (k : ℕ)
    → Does said before (reply_in w) b × (pointer_in w ≡ at) → Does said before (reply_in w') b' × (pointer_in w' ≡ at) → (w ≡ w') × (ending k b ≡ ending k b')
widely {w = w} {w' = w'} k (p, f) (q, g) = (wide w w' (once p q).0 (f ∙ sym g), ap (ending k) (once p q).1)

pub wide_verdict : {A E : Type 0} {said : Said A} {at : Pointer} {before after : List A} {w w' : FaceReply} {e : E}
    → Does said before (reply_in w) after × (pointer_in w ≡ at) → Does said before (reply_in w') after × (pointer_in w' ≡ at) → (w ≡ w') × (e ≡ e)
wide_verdict {w = w} {w' = w'} (p, f) (q, g) = (wide w w' (once p q).0 (f ∙ sym g), refl)
