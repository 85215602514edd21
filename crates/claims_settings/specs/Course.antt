-- The ATM history course as a table: PIN 34567 in the formats that the course is about, under No, which it asks for by name, and under
-- the usual settings, which a class has that forgets to ask.
use Rattle.std.specs.Prelude.{ℕ, ◌≡◌, List, [], ◌∷◌, true, false, replicate}
use Rattle.numbers.specs.Promise.{quietly}
use Rattle.settings.specs.Settings.{usually, restricted_to}
use Rattle.settings.specs.declared.Settings.{Settings}
use Rattle.translation.specs.Translation.{translate_block}
use Rattle.texts.specs.Characters.{printed}
use Rattle.claims_blocks.specs.Figures.{usual_account, block_p1}
use Rattle.claims_offsets.specs.Figures.{block_p2, enciphered_p9}
use Rattle.claims_figures.specs.Figures.{says}
use Rattle.claims_commands.specs.Witnesses.{format34, run_p9_in_34}
use Rattle.claims_commands.specs.Cores.{block_p12}
use Rattle.claims_refusals.specs.Parts.{but, exchange}
use Rattle.claims_refusals.specs.Refusals.{KeyBox, key_box, Calls}
use Rattle.claims_pointed.specs.Rows.{points, CallsPoint}

-- a format of the course: its code, its two digits, and the block that holds the PIN
pub record Taught : Type 0 where
  pub code : ℕ
  pub digits : List ℕ
  pub block : List ℕ

-- P5's, that of format 34, P1's
abbrev pub taught03 : Taught
taught03 = record { code = 3; digits = printed "03"; block = 0x34 ∷ 0x56 ∷ 0x7F ∷ 0xFF ∷ 0xFF ∷ 0xFF ∷ 0xFF ∷ 0xFF ∷ [] }

abbrev pub taught34 : Taught
taught34 = record { code = 34; digits = format34; block = run_p9_in_34.block }

abbrev pub taught35 : Taught
taught35 = record { code = 35; digits = printed "35"; block = block_p1 }

-- the key box's answers: the block, and P9's
abbrev pub box_of : Taught → KeyBox
box_of t = key_box true true t.block enciphered_p9

-- both calls answer the paper's command in that format, and the block becomes P2's, in format 01
abbrev pub Answered : Settings → Taught → Type 0
Answered settings t =
    Calls settings 8 65 (box_of t) (but 5 t.digits exchange) (says 0 block_p12) (says 0 (printed "HDR1BL009247FFFFFFFF"))
    × (quietly (translate_block settings.restricted t.code 1 t.block usual_account (replicate 8 0) 8) ≡ says 0 block_p2)

-- both calls refuse it with 69 at field 5, place 91, and so is the translation refused
abbrev pub Refused : Settings → Taught → Type 0
Refused settings t =
    Calls settings 8 65 (box_of t) (but 5 t.digits exchange) (says 69 []) (says 69 (printed "HDR1BL69"))
    × CallsPoint settings 8 65 (box_of t) (but 5 t.digits exchange) (points 69 91 5) (points 69 91 5)
    × (quietly (translate_block settings.restricted t.code 1 t.block usual_account (replicate 8 0) 8) ≡ says 69 [])

-- answered where the course asks for No, refused under the usual settings
abbrev pub AsksForNo : Taught → Type 0
AsksForNo t = Answered (restricted_to usually false) t × Refused usually t

abbrev pub HistoryCourse : Type 0
HistoryCourse = AsksForNo taught03 × AsksForNo taught34 × AsksForNo taught35
