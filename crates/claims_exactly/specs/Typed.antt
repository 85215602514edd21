-- Two commands, each as its parts and as the bytes that a host programmer types: one with every optional part, one with few.
use Prim.Native.Char.{code}
use Rattle.std.specs.Prelude.{ℕ, ◌≤◌, ◌≡◌, Bool, true, false, List, [], ◌∷◌, ◌++◌, replicate}
use Rattle.numbers.specs.Numbers.{done}
use Rattle.numbers.specs.Promise.{Said}
use Rattle.settings.specs.Settings.{usually, restricted_to, variably}
use Rattle.formats.specs.declared.Format.TheVariants.{F03, F47}
use Rattle.commands.specs.Commands.{asked, answered}
use Rattle.texts.specs.Characters.{printed}
use Rattle.texts.specs.Texts.{absent, present}
use Rattle.texts_keys.specs.KeyTexts.{KeyBlock, is002, isFFF, double, triple, block}
use Rattle.texts_data.specs.DataTexts.{with_n, with_p, pins}
use Rattle.claims_exactly.specs.BkText.{BkParts, bk_text, IsBk}

-- the shortest key block, of "0016" characters, for the PIN key: "72", "T", "N", LMK id "09"
abbrev pub shortest : KeyBlock
shortest = record {
  version = code "1";
  usage = printed "72";
  algorithm = code "T";
  mode = code "N";
  unjudged = printed " ~a~ ";
  id = 9;
  tail = [];
}

-- the longest key block, of "0512" characters, for the PVK: "V1", "T", "N", LMK id "09"
abbrev pub longest : KeyBlock
longest = record {
  version = code "0";
  usage = printed "V1";
  algorithm = code "T";
  mode = code "N";
  unjudged = printed "~ z ~";
  id = 9;
  tail = replicate 496 (code "~");
}

-- a command with every optional part
abbrev pub full : BkParts
full = record {
  keys = record { type = isFFF; first = block shortest; second = block longest };
  sealed = record { block = printed "0123456789ABCDEF"; format = F47 };
  inputs = record {
    check = 12;
    account = printed "400000123456";
    table = printed "9876543210987654";
    validation = with_p (printed "FEDCBA9876543210");
  };
  weak = present (pins 4 (printed "1234" ∷ (printed "9870" ∷ [])));
  end = record { id = present 9; trailer = present (printed " The trailer has 32 characters.~") };
}

-- the same bytes, field after field as the paper writes them; 496 characters stand behind the PVK's LMK id
abbrev pub full_text : List ℕ
full_text =
    printed "FFFS1001672TN ~a~ 09S00512V1TN~ z ~09"
    ++ (replicate 496 (code "~")
    ++ (printed "0123456789ABCDEF47124000001234569876543210987654PFEDCBA9876543210;020412349870%09"
    ++ (0x19 ∷ printed " The trailer has 32 characters.~")))

-- it is one of the paper's, restricted or not, and those are its bytes
abbrev pub FullIsBk : Type 0
FullIsBk = ((restricted : Bool) → IsBk restricted full) × (bk_text full ≡ full_text)

-- so behind a header and `BK` the asking call takes it, restricted or not, and asks for the block that its `P` data say
abbrev pub FullIsAsked : Type 0
FullIsAsked = (restricted : Bool) (room : ℕ) → 8 ≤ room
    → asked (restricted_to usually restricted) (printed "HDR1BK" ++ full_text) room ≡ done (0xFE ∷ 0xDC ∷ 0xBA ∷ 0x98 ∷ 0x76 ∷ 0x54 ∷ 0x32 ∷ 0x10 ∷ [])

-- ---- the whole exchange with it

-- PIN 246813 in format 47 under the account: 36 24 68 13 FA BC DE FA, XORed with 00 00 40 00 00 12 34 56
abbrev pub full_block : List ℕ
full_block = 0x36 ∷ 0x24 ∷ 0x28 ∷ 0x13 ∷ 0xFA ∷ 0xAE ∷ 0xEA ∷ 0xAC ∷ []

-- its table turns the first six nibbles into 948576
abbrev pub full_enciphered : List ℕ
full_enciphered = 0x0F ∷ 0x1E ∷ 0x2D ∷ 0x3C ∷ 0x4B ∷ 0x5A ∷ 0x69 ∷ 0x78 ∷ []

-- what is said to it, under a setting for restricted formats and one for variable length
abbrev pub full_said : Bool → Bool → ℕ → Said ℕ
full_said restricted variable room = answered (variably (restricted_to usually restricted) variable) true true (printed "HDR1BK" ++ full_text) full_block full_enciphered room

-- with offsets of variable length all six digits are covered, 246813 less 948576, and the trailer comes back; its check length of
-- twelve, over six, is 81 otherwise
abbrev pub FullIsAnswered : Type 0
FullIsAnswered = (restricted : Bool) (room : ℕ) → 65 ≤ room
    → (full_said restricted true room ≡ record { number = 0; written = printed "HDR1BL00308347FFFFFF" ++ (0x19 ∷ printed " The trailer has 32 characters.~") })
    × (full_said restricted false room ≡ record { number = 81; written = printed "HDR1BL81" })

-- another one: type 002, a `T` and a `U` key, `N` data, one weak PIN of twelve digits, no id, and a trailer of its mark alone
abbrev pub spare : BkParts
spare = record {
  keys = record { type = is002; first = triple (printed "0123456789ABCDEFFEDCBA98765432100123456789ABCDEF"); second = double (printed "FEDCBA98765432100123456789ABCDEF") };
  sealed = record { block = printed "FEDCBA9876543210"; format = F03 };
  inputs = record {
    check = 4;
    account = printed "400000123456";
    table = printed "0123456789012345";
    validation = with_n (printed "0123456789A") [];
  };
  weak = present (pins 12 (printed "123456789012" ∷ []));
  end = record { id = absent; trailer = present [] };
}

abbrev pub spare_text : List ℕ
spare_text =
    printed "002T0123456789ABCDEFFEDCBA98765432100123456789ABCDEFUFEDCBA98765432100123456789ABCDEF"
    ++ (printed "FEDCBA9876543210030440000012345601234567890123450123456789AN;0112123456789012" ++ (0x19 ∷ []))

-- it is one of the paper's where formats are not restricted, those are its bytes, and the block asked for is P12's
abbrev pub SpareIsBk : Type 0
SpareIsBk = IsBk false spare × (bk_text spare ≡ spare_text)

abbrev pub SpareIsAsked : Type 0
SpareIsAsked = (room : ℕ) → 8 ≤ room
    → asked (restricted_to usually false) (printed "HDR1BK" ++ spare_text) room ≡ done (0x01 ∷ 0x23 ∷ 0x45 ∷ 0x67 ∷ 0x89 ∷ 0xA2 ∷ 0x34 ∷ 0x56 ∷ [])
