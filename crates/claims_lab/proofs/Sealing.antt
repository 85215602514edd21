-- A PIN that was sealed under the PIN key comes out of it.
-- Assumes nothing.
use mathlib.Core.Path.{refl, sym, ◌∙◌}
use Rattle.ciphers.specs.Ciphers.{triple_block}
use Rattle.ciphers.specs.declared.Way.TheVariants.{Encipher}
use Rattle.lab.proofs.Laws.{answers_lab, replies_lab}
use Rattle.claims_ciphers.proofs.Undone.{triple_undone}
use Rattle.claims_lab.specs.Sealing.{SealedOpens, SealedAnswers}
use Rattle.claims_lab.proofs.Product.{clear_made, cipher_made}

pub sealed_opens : SealedOpens
sealed_opens settings s pin_key block u = clear_made settings s pin_key (triple_block Encipher pin_key block) u.key u.sealed ∙ triple_undone Encipher pin_key block (u.long, u.bytes)

pub sealed_answers : SealedAnswers
sealed_answers settings s pin_key pvk v block room u kv e =
    let clear = sealed_opens settings s pin_key block u in
    let cipher = cipher_made settings s pvk v kv e in (
      sym (answers_lab settings s pin_key pvk _ _ _ _ room refl refl (sym clear) (sym cipher)),
      sym (replies_lab settings s pin_key pvk _ _ _ _ room refl refl (sym clear) (sym cipher)),
    )
