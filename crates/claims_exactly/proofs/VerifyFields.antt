-- The fields of DA and EA are read exactly: as they are listed, and then the parts by name.
-- Assumes nothing.
use Prim.Native.Nat.{ℕ}
use mathlib.Core.Path.{◌≡◌, refl, sym, subst}
use mathlib.Core.List.{List, [], ◌++◌}
use Rattle.verifyfields.specs.VerifyFields.{verify_fields}
use Rattle.verifyfields.specs.declared.Verification.{Verification}
use Rattle.texts.specs.Exact.{Writing, ExactAt}
use Rattle.texts.specs.Joining.{Same}
use Rattle.texts.specs.Whole.{written}
use Rattle.texts.proofs.Closing.{stage_as}
use Rattle.texts_keys.specs.KeyTexts.{KeyRule, IsKey, own_ids, AllSame}
use Rattle.texts_keys.specs.KeyWritings.{rule_for, lmk_of, ids_read}
use Rattle.texts_keys.proofs.KeyFields.{letter_admitted, terminal_key_ruled, zone_key_ruled, key_ids_lem}
use Rattle.claims_alike.proofs.Pieces.{whole}
use Rattle.claims_commands.specs.Runs.{Verifying, terminal, zone, key_for}
use Rattle.claims_commands.proofs.VerifyLayout.{verify_layout, verify_listed_exact}
use Rattle.claims_exactly.specs.VerifyText.{pin_key_rule_of, VerifyParts, verify_ids, IsVerify}
use Rattle.claims_exactly.specs.Claims.{verify_command}

-- the stages, joined
abbrev verify_joined : Verifying → ℕ → Writing Verification
verify_joined w = (whole (verify_layout (key_for w))).writing

-- the use of the PIN key is its rule
pub key_ruled : (w : Verifying) → rule_for (key_for w) ≡ pin_key_rule_of w
key_ruled terminal = terminal_key_ruled
key_ruled zone = zone_key_ruled

-- the ids that are read are those that are present
ids_as : (p : VerifyParts) → AllSame (ids_read (lmk_of p.keys.first) ++ (ids_read (lmk_of p.keys.second) ++ own_ids p.end.id)) ≡ AllSame (verify_ids p)
ids_as p = rw (key_ids_lem p.keys.first, key_ids_lem p.keys.second)

verify_same : (w : Verifying) (at : ℕ) → Same (verify_joined w at) (written (verify_command w) at)
verify_same w at = record { to = to; text = λ q. refl; value = λ q. refl; good = good; from = from }
  where
    to : (verify_joined w at).Part → VerifyParts
    to q = record { keys = q.0.0; sealed = q.1.0; inputs = q.1.1.0; offset = q.1.1.1.0; end = q.1.1.1.1 }

    good : (q : (verify_joined w at).Part) (rest : List ℕ) → (verify_joined w at).fine q rest → (rest ≡ []) × IsVerify (pin_key_rule_of w) (to q)
    good q rest g =
        let p = to q in
        let first = g.0.0.0 in
        let second = g.0.0.1 in
        let end = g.1.1.1.1 in (
          end.0,
          record {
            pin_key = record { letter = (letter_admitted p.keys.first).1 first.0; is = subst (λ (r : KeyRule). IsKey r p.keys.first) (key_ruled w) first.1 };
            pvk = record { letter = (letter_admitted p.keys.second).1 second.0; is = second.1 };
            sealed = g.1.0;
            inputs = g.1.1.0;
            offset = g.1.1.1.0;
            end = end.1;
            ids = subst (λ (T : Type 0). T) (ids_as p) end.2;
          },
        )

    from : (p : VerifyParts) (rest : List ℕ) → (rest ≡ []) × IsVerify (pin_key_rule_of w) p → (q : (verify_joined w at).Part) × (to q ≡ p) × (verify_joined w at).fine q rest
    from p rest (over, g) =
        let ids = subst (λ (T : Type 0). T) (sym (ids_as p)) g.ids in
        let pin_key = subst (λ (r : KeyRule). IsKey r p.keys.first) (sym (key_ruled w)) g.pin_key.is in
        let first = (letter_admitted p.keys.first).0 g.pin_key.letter in
        let second = (letter_admitted p.keys.second).0 g.pvk.letter in (
          ((p.keys, tt), (p.sealed, (p.inputs, (p.offset, p.end)))),
          refl,
          rw over ((((first, pin_key), (second, g.pvk.is)), tt), (g.sealed, (g.inputs, (g.offset, (refl, g.end, ids))))),
        )

pub verify_exact : (w : Verifying) (s : List ℕ) (at : ℕ) → ExactAt s at (verify_fields (key_for w) s at) (written (verify_command w) at)
verify_exact w s at =
    stage_as (verify_joined w at) (written (verify_command w) at) (verify_same w at) s at (verify_fields (key_for w) s at) (verify_listed_exact (key_for w) s at)
