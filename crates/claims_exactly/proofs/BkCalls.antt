-- What the two calls say to a BK command of the paper's.
-- Assumes nothing.
use Prim.Native.Nat.{ℕ, ◌+◌}
use native.Mathlib.Omega.{arith}
use mathlib.Core.Path.{refl, ◌∙◌}
use mathlib.Core.List.{List}
use mathlib.Core.Bool.{Bool}
use Rattle.settings.specs.declared.Settings.{Settings}
use Rattle.frame.specs.declared.Code.TheVariants as codes
use Rattle.bkfields.specs.BkFields.{bk_fields}
use Rattle.bkfields.specs.declared.Bk.{Bk}
use Rattle.bkfinish.specs.BkFinish.{bk_finish}
use Rattle.texts_data.proofs.ValidationData.{row_of_parts}
use Rattle.claims_commands.proofs.Fields.{fields_give}
use Rattle.claims_commands.proofs.Listing.{bk_shape}
use Rattle.claims_exactly.specs.BkText.{BkParts, IsBk}
use Rattle.claims_exactly.specs.Claims.{bk_command, bk_placed, Stand}
use Rattle.claims_exactly.specs.Sent.{IsHeader}
use Rattle.claims_exactly.specs.Responses.{bk_sent, account_digits, AsksParts, AnswersParts}
use Rattle.claims_exactly.proofs.Codes.{code_told, bk_coded}
use Rattle.claims_exactly.proofs.Claims.{parts_stand, bk_exactly}
use Rattle.claims_exactly.proofs.Sizes.{bk_size}
use Rattle.claims_exactly.proofs.Sent.{Known, sent_fields}
use Rattle.claims_exactly.proofs.Calls.{Called, sent_asked, sent_answered}

abbrev pub bk_known : Bool → Known Bk
bk_known restricted = record {
  first = 0x42;
  second = 0x4B;
  command = bk_command restricted;
  fields = bk_fields restricted;
  exactly = bk_exactly restricted;
  short = λ p g. let size = bk_size restricted p g in omega arith;
}

abbrev pub bk_called : (settings : Settings) → Called (bk_shape settings)
bk_called settings = record { known = bk_known settings.restricted; fields = λ s at. refl; coded = bk_coded; begun = λ cs. code_told cs codes.Bk; gives = fields_give settings.restricted }

module _ (settings : Settings) (header : List ℕ) (p : BkParts) (h : IsHeader settings.header header) (g : IsBk settings.restricted p) where
  sent_stand : Stand (bk_sent settings header p) (bk_placed (settings.header + 2) p) p
  sent_stand = parts_stand settings.restricted (bk_sent settings header p) (settings.header + 2) p g (sent_fields (bk_known settings.restricted) settings.header header p h g)

pub asks_parts : AsksParts
asks_parts settings room header p roomy h g =
    let stand = (sent_stand settings header p h g).inputs in
    sent_asked (bk_called settings) header p h g room roomy
    ∙ rw (stand.account, stand.validation, row_of_parts (account_digits p.inputs) p.inputs.validation g.inputs.validation)

pub answers_parts : AnswersParts
unfolding bk_finish
answers_parts settings block enciphered room header p b c roomy h g =
    let stand = sent_stand settings header p h g in
    sent_answered (bk_called settings) header p h g block enciphered room b c roomy
    ∙ rw (stand.inputs.account, stand.inputs.table, stand.weak, stand.trailer)
