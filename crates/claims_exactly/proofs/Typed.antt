-- The commands that are typed, computed.
-- Assumes nothing.
use native.Mathlib.Omega.{arith}
use mathlib.Core.Path.{◌≡◌, refl}
use mathlib.Core.Logic.{inl, inr}
use mathlib.Core.Bool.{Bool, true, false}
use Rattle.nibbles.specs.Nibbles.{nibs, packs, xors, every, leading, same}
use Rattle.alphabet.specs.Alphabet.{all_of, value_of}
use Rattle.settings.specs.Settings.{usually, restricted_to, variably}
use Rattle.blocks.specs.Blocks.{contents, read_row}
use Rattle.ibm3624.specs.Ibm3624.{differences}
use Rattle.offsets.specs.Offsets.{pin_with_natural}
use Rattle.weak.specs.Weak.{is_on}
use Rattle.texts.specs.Characters.{printed}
use Rattle.texts_keys.specs.KeyTexts.{pin_key_rule, pvk_rule, IsBlock}
use Rattle.texts_data.specs.DataTexts.{Allows}
use Rattle.claims_exactly.specs.BkText.{IsBk}
use Rattle.claims_exactly.specs.Sent.{IsHeader}
use Rattle.claims_exactly.specs.Typed.{shortest, longest, full, FullIsBk, FullIsAsked, full_block, full_enciphered, full_said, FullIsAnswered, spare, SpareIsBk, SpareIsAsked}
use Rattle.claims_exactly.specs.Responses.{finish_of, response_to}
use Rattle.claims_exactly.proofs.BkCalls.{asks_parts, answers_parts}

shortest_is : IsBlock pin_key_rule shortest
unfolding all_of
shortest_is = record {
  version = inr (inl refl);
  size = omega arith;
  usage = inr (inr (inl refl));
  algorithm = inl refl;
  mode = inr (inr (inl refl));
  unjudged = (refl, refl);
  id = (omega arith, omega arith);
  tail = refl;
}

longest_is : IsBlock pvk_rule longest
unfolding all_of
longest_is = record {
  version = inl refl;
  size = omega arith;
  usage = inl refl;
  algorithm = inl refl;
  mode = inr (inr (inl refl));
  unjudged = (refl, refl);
  id = (omega arith, omega arith);
  tail = refl;
}

full_is : (restricted : Bool) → Allows restricted full.sealed.format → IsBk restricted full
unfolding all_of
full_is restricted allowed = record {
  keys = record { wanted = (inl refl, inl refl); first = shortest_is; second = longest_is };
  sealed = record { block = (refl, refl); format = allowed };
  inputs = record { check = (omega arith, omega arith); account = (refl, refl); table = (refl, refl); validation = (refl, refl) };
  weak = ((omega arith, omega arith), (omega arith, omega arith), ((refl, refl), ((refl, refl), tt)));
  end = record { id = (omega arith, omega arith); trailer = (omega arith, refl) };
  ids = (refl, (refl, tt));
}

-- format 47 is allowed under either setting
full_is_either : (restricted : Bool) → IsBk restricted full
full_is_either true = full_is true (inr (inl refl))
full_is_either false = full_is false tt

pub full_is_bk : FullIsBk
full_is_bk = (full_is_either, refl)

spare_is : IsBk false spare
unfolding all_of
spare_is = record {
  keys = record { wanted = (inr (inl refl), inl refl); first = (refl, refl); second = (refl, refl) };
  sealed = record { block = (refl, refl); format = tt };
  inputs = record { check = (omega arith, omega arith); account = (refl, refl); table = (refl, refl); validation = (refl, refl) };
  weak = ((omega arith, omega arith), (omega arith, omega arith), ((refl, refl), tt));
  end = record { id = tt; trailer = (omega arith, refl) };
  ids = tt;
}

pub spare_is_bk : SpareIsBk
spare_is_bk = (spare_is, refl)

-- ---- behind a header

pub header_is : IsHeader 4 (printed "HDR1")
unfolding all_of
header_is = (omega arith, (refl, refl))

pub full_is_asked : FullIsAsked
unfolding packs value_of
full_is_asked restricted room roomy = asks_parts (restricted_to usually restricted) room (printed "HDR1") full roomy header_is (full_is_either restricted)

pub full_is_answered : FullIsAnswered
unfolding nibs xors every leading same value_of contents read_row pin_with_natural differences is_on
full_is_answered restricted room roomy = (said true, said false)
  where
    said : (variable : Bool) → full_said restricted variable room ≡ response_to (printed "HDR1") full (finish_of variable full full_block full_enciphered)
    said variable = answers_parts (variably (restricted_to usually restricted) variable) full_block full_enciphered room (printed "HDR1") full refl refl roomy header_is (full_is_either restricted)

pub spare_is_asked : SpareIsAsked
unfolding packs value_of
spare_is_asked room roomy = asks_parts (restricted_to usually false) room (printed "HDR1") spare roomy header_is spare_is
