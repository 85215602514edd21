-- BK's fields are read exactly: as they are listed, and then the parts by name.
-- Assumes nothing.
use Prim.Native.Nat.{ℕ}
use mathlib.Core.Path.{◌≡◌, refl, sym, subst}
use mathlib.Core.List.{List, [], ◌++◌}
use mathlib.Core.Bool.{Bool}
use Rattle.alphabet.specs.Alphabet.{begins}
use Rattle.bkfields.specs.BkFields.{bk_fields}
use Rattle.bkfields.specs.declared.Bk.{Bk}
use Rattle.texts.specs.Texts.{Optional, absent, present, WherePresent}
use Rattle.texts.specs.Exact.{Writing, ExactAt}
use Rattle.texts.specs.Joining.{Same}
use Rattle.texts.specs.Whole.{written}
use Rattle.texts.proofs.Closing.{stage_as}
use Rattle.texts_keys.specs.KeyTexts.{own_ids, AllSame}
use Rattle.texts_keys.specs.KeyWritings.{lmk_of, ids_read}
use Rattle.texts_keys.proofs.KeyFields.{key_ids_lem}
use Rattle.texts_data.specs.DataTexts.{WeakList, IsWeakList}
use Rattle.texts_data.specs.DataWritings.{WeakFine}
use Rattle.texts_stages.specs.StageTexts.{end_text}
use Rattle.claims_alike.proofs.Pieces.{whole}
use Rattle.claims_commands.proofs.Listing.{bk_layout, listed_exact}
use Rattle.claims_exactly.specs.BkText.{BkParts, bk_ids, IsBk}
use Rattle.claims_exactly.specs.Claims.{bk_command}

-- the stages, joined
abbrev bk_joined : Bool → ℕ → Writing Bk
bk_joined restricted = (whole (bk_layout restricted)).writing

-- ---- the parts by name

-- what is behind a weak list that is absent is not its mark
weak_good : (w : Optional WeakList) (v : Optional ℕ) (t : Optional (List ℕ)) → WherePresent IsWeakList w → WeakFine 0x3B w (end_text (record { id = v; trailer = t }) ++ [])
unfolding begins
weak_good absent absent absent g = refl
weak_good absent absent (present cs) g = refl
weak_good absent (present n) t g = refl
weak_good (present w) v t g = g

weak_is : (w : Optional WeakList) (rest : List ℕ) → WeakFine 0x3B w rest → WherePresent IsWeakList w
weak_is absent rest g = tt
weak_is (present w) rest g = g

-- the ids that are read are those that are present
ids_as : (p : BkParts) → AllSame (ids_read (lmk_of p.keys.first) ++ (ids_read (lmk_of p.keys.second) ++ own_ids p.end.id)) ≡ AllSame (bk_ids p)
ids_as p = rw (key_ids_lem p.keys.first, key_ids_lem p.keys.second)

bk_same : (restricted : Bool) (at : ℕ) → Same (bk_joined restricted at) (written (bk_command restricted) at)
bk_same restricted at = record { to = to; text = λ q. refl; value = λ q. refl; good = good; from = from }
  where
    to : (bk_joined restricted at).Part → BkParts
    to q = record { keys = q.0; sealed = q.1.0; inputs = q.1.1.0; weak = q.1.1.1.0; end = q.1.1.1.1 }

    good : (q : (bk_joined restricted at).Part) (rest : List ℕ) → (bk_joined restricted at).fine q rest → (rest ≡ []) × IsBk restricted (to q)
    good q rest g =
        let end = g.1.1.1.1 in (
          end.0,
          record {
            keys = g.0;
            sealed = g.1.0;
            inputs = g.1.1.0;
            weak = weak_is (to q).weak _ g.1.1.1.0;
            end = end.1;
            ids = subst (λ (T : Type 0). T) (ids_as (to q)) end.2;
          },
        )

    from : (p : BkParts) (rest : List ℕ) → (rest ≡ []) × IsBk restricted p → (q : (bk_joined restricted at).Part) × (to q ≡ p) × (bk_joined restricted at).fine q rest
    from p rest (over, g) =
        let ids = subst (λ (T : Type 0). T) (sym (ids_as p)) g.ids in
        ((p.keys, (p.sealed, (p.inputs, (p.weak, p.end)))), refl, rw over (g.keys, (g.sealed, (g.inputs, (weak_good p.weak p.end.id p.end.trailer g.weak, (refl, g.end, ids))))))

pub bk_exact : (restricted : Bool) (s : List ℕ) (at : ℕ) → ExactAt s at (bk_fields restricted s at) (written (bk_command restricted) at)
bk_exact restricted s at =
    stage_as (bk_joined restricted at) (written (bk_command restricted) at) (bk_same restricted at) s at (bk_fields restricted s at) (listed_exact restricted s at)
