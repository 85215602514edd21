-- The PIN block's call does not look into the block.
-- Assumes nothing.
use Prim.Native.Nat.{ℕ, ◌+◌, ◌-◌, ◌≤◌}
use native.Mathlib.Omega.{arith}
use mathlib.Core.Path.{◌≡◌, refl, sym, ap, ◌∙◌, subst}
use mathlib.Core.Logic.{◌⊎◌, inl, inr}
use mathlib.Core.List.{List, [], ◌∷◌}
use mathlib.Core.Bool.{Bool}
use lib.ListN.{length, take, drop, length-take, length-drop}
use lib.Seq.{take-take}
use lib.Dec.{leb}
use borrow.Author.Tests.{le-leb}
use Rattle.alphabet.specs.Alphabet.{begins}
use Rattle.alphabet.specs.declared.Class.TheVariants.{CapitalHex}
use Rattle.numbers.specs.Numbers.{Outcome, done, refused, and_then, unless}
use Rattle.numbers.specs.declared.Refusal.TheVariants.{Field15, Room901, Frame902}
use Rattle.numbers.proofs.Laws.{then_done, passed}
use Rattle.settings.specs.declared.Settings.{Settings}
use Rattle.frame.specs.Frame.{is_framed, framed, code_of}
use Rattle.frame.specs.declared.Code.{Code}
use Rattle.frame.specs.declared.Code.TheVariants.{Bk, Da, Ea, Other}
use Rattle.fields.specs.Fields.{Stage, read, faulty, Ruling, ruled, unpointed, run}
use Rattle.fields.specs.declared.Fault.{Fault}
use Rattle.fields.proofs.Laws.{slice_ahead}
use Rattle.fields.proofs.Reading.{onward_read}
use Rattle.sealed.specs.Sealed.{sealed, block_in}
use Rattle.sealed.specs.declared.Sealed.{Sealed}
use Rattle.offsetting.specs.Offsetting.{part}
use Rattle.bkfields.specs.BkFields.{bk_fields}
use Rattle.verifyfields.specs.VerifyFields.{front, restricted, verify_fields}
use Rattle.commands.specs.Commands.{opened, extract_by, extracting}
use Rattle.texts.specs.Texts.{Run}
use Rattle.claims_alike.specs.Alike.{Layout, fields}
use Rattle.claims_alike.proofs.Alike.{before}
use Rattle.claims_commands.specs.Runs.{Verifying, terminal, zone, code_for, key_for, code_in}
use Rattle.claims_commands.proofs.Listing.{bk_layout}
use Rattle.claims_commands.proofs.VerifyLayout.{verify_layout}
use Rattle.claims_extracting.specs.Blind.{BlockBegins, AnotherBlock, bytes_at, BlindToTheBlock}
use Rattle.claims_extracting.proofs.Extracting.{bk_extracts, verify_extracts}
use Rattle.claims_extracting.proofs.Ahead.{onward_alike, further, bk_tail_lem, verify_tail_lem}

-- a text of so many characters is told by as many
begins_take : (ts cs : List ℕ) → begins ts (take (length ts) cs) ≡ begins ts cs
unfolding begins
begins_take [] cs = refl
begins_take (t ∷ ts) [] = refl
begins_take (t ∷ ts) (c ∷ cs) = rw (begins_take ts cs)

module _ (place : ℕ) (s t : List ℕ) (two : AnotherBlock place s t) where
  -- refused with the same fault, or each with its own block
  abbrev Alike : Ruling (List ℕ) → Ruling (List ℕ) → Type 0
  Alike x y = ((f : Fault) × (x ≡ refused f) × (y ≡ refused f)) ⊎ ((x ≡ done (bytes_at s place)) × (y ≡ done (bytes_at t place)))

  -- ---- where they are alike

  inside : (u : List ℕ) → Run CapitalHex 16 (part u place 16) → place + 16 ≤ length u
  inside u r = omega (arith, r.0, length-take 16 (drop place u), length-drop place u)

  same_length : length s ≡ length t
  same_length =
      omega (arith, inside s two.here, inside t two.there, length-drop (place + 16) s, length-drop (place + 16) t, ap length two.alike.behind)

  behind : (past : ℕ) → place + 16 ≤ past → drop past s ≡ drop past t
  behind past l = let k : place + 16 + (past - (place + 16)) ≡ past = omega arith in subst (λ (n : ℕ). drop n s ≡ drop n t) k (further s t (place + 16) (past - (place + 16)) two.alike.behind)

  ahead : (n : ℕ) → n ≤ place → take n s ≡ take n t
  ahead n l = sym (take-take n place s l) ∙ ap (take n) two.alike.before ∙ take-take n place t l

  -- ---- the frame

  same_frame : (header : ℕ) → header + 2 ≤ place → is_framed header s ≡ is_framed header t
  unfolding is_framed
  same_frame header l = rw (same_length, ahead header (omega arith))

  same_code : (header : ℕ) → header + 2 ≤ place → code_of (drop header s) ≡ code_of (drop header t)
  same_code header l =
      let code : take 2 (drop header s) ≡ take 2 (drop header t) = sym (slice_ahead header 2 s) ∙ ap (drop header) (ahead (header + 2) l) ∙ slice_ahead header 2 t in
      let one : (a b : ℕ) → begins (a ∷ b ∷ []) (drop header s) ≡ begins (a ∷ b ∷ []) (drop header t)
      = λ a b. sym (begins_take (a ∷ b ∷ []) (drop header s)) ∙ ap (begins (a ∷ b ∷ [])) code ∙ begins_take (a ∷ b ∷ []) (drop header t) in
      rw (one 0x42 0x4B, one 0x44 0x41, one 0x45 0x41)

  -- ---- the fields

  sixteen : (u : List ℕ) → Run CapitalHex 16 (part u place 16) → run CapitalHex Field15 Field15 16 (drop place u) ≡ done (16, 16)
  unfolding run
  sixteen u r = let l = inside u r in rw (le-leb 16 (length (drop place u)) (omega (arith, length-drop place u)), r.1)

  sealed_alike : (first : ℕ) (restricted : Bool) → sealed first restricted s place ≡ sealed first restricted t place
  unfolding sealed
  sealed_alike first restricted = rw (sixteen s two.here, sixteen t two.there, two.alike.behind)

  -- of any command that lies around such a block
  module _ {F X A S : Type 0} (c : Layout 16 F X A S) (at : ℕ) (f : F) (e : c.front.stage s at ≡ read f place)
      (blocks : c.block.stage s place ≡ c.block.stage t place)
      (tails : (x : X) (past : ℕ) → drop past s ≡ drop past t → (c.tail f x).stage s past ≡ (c.tail f x).stage t past) where
    fields_alike : fields c s at ≡ fields c t at
    fields_alike =
        let there = before s t at (c.front.stage s at) (c.front.stage t at) (c.front.writing at) (c.front.exact s at) (c.front.exact t at) f place e (c.whatever at) two.alike.before in
        rw (e, there)
        (onward_alike (c.block.stage s place) (c.block.stage t place) _ _ blocks
        (λ x past r. tails x past (behind past (c.passes.over s place x past r).1)))

    block_there : (v : A) (past : ℕ) → fields c s at ≡ read v past → c.place v ≡ place
    block_there v past r =
        let b = onward_read (c.block.stage s place) (λ x at₃. (c.tail f x).stage s at₃) v past (rw e at r) in
        let o = (((c.tail f b.0).exact s b.1).only v past b.3).2 in
        ap c.place o.same ∙ c.placed f b.0 b.1 o.part ∙ (c.passes.over s place b.0 b.1 b.2).0

    ruled_alike : (sealed : A → Sealed) → ((v : A) → (sealed v).block ≡ c.place v)
        → (at ≤ place) × Alike (and_then (ruled (fields c s at)) (λ v. done (block_in s (sealed v)))) (and_then (ruled (fields c t at)) (λ v. done (block_in t (sealed v))))
    ruled_alike sealed placed = (omega (arith, ((c.front.exact s at).only f place e).1), rw (← fields_alike) (by_fields (fields c s at) refl))
      where
        by_fields : (o : Stage A) → fields c s at ≡ o → Alike (and_then (ruled o) (λ v. done (block_in s (sealed v)))) (and_then (ruled o) (λ v. done (block_in t (sealed v))))
        by_fields (read v past) r =
            let there = placed v ∙ block_there v past r in
            inr (ap (λ (k : ℕ). done (bytes_at s k)) there, ap (λ (k : ℕ). done (bytes_at t k)) there)
        by_fields (faulty q) r = inl (q, refl, refl)

  -- ---- the commands

  module _ (settings : Settings) where
    abbrev at : ℕ
    at = settings.header + 2

    abbrev Blind : Code → Type 0
    Blind code = (at ≤ place) × Alike (extract_by code settings s at) (extract_by code settings t at)

    verify_blind : (w : Verifying) (ks : _) → front (key_for w) s at ≡ read ks place → Blind (code_for w)
    unfolding verify_fields front
    verify_blind w ks e =
        rw (verify_extracts w settings s at, verify_extracts w settings t at)
        (ruled_alike (verify_layout (key_for w)) at ks e (sealed_alike 4 restricted) (λ x past h. verify_tail_lem s t ks x past same_length h (key_for w)) (λ v. v.sealed) (λ v. refl))

    blind_by : (code : Code) → BlockBegins code s at place → Blind code
    unfolding bk_fields
    blind_by Bk (ks, e) =
        rw (bk_extracts settings s at, bk_extracts settings t at)
        (ruled_alike (bk_layout settings.restricted) at ks e (sealed_alike 4 settings.restricted) (λ x past h. bk_tail_lem s t ks x past same_length h settings.restricted) (λ v. v.sealed) (λ v. refl))
    blind_by Da (ks, e) = verify_blind terminal ks e
    blind_by Ea (ks, e) = verify_blind zone ks e
    blind_by Other none = absurd none

    -- ---- the call

    blind : (room : ℕ) → BlockBegins (code_in settings s) s at place → Alike (extracting settings s room) (extracting settings t room)
    unfolding extracting
    blind room begun = by_frame (opened 16 room settings.header s) refl
      where
        open' : opened 16 room settings.header s ≡ opened 16 room settings.header t
        open' = rw (same_frame settings.header (blind_by (code_in settings s) begun).0)

        coded : extract_by (code_in settings t) settings t at ≡ extract_by (code_in settings s) settings t at
        coded = rw (same_code settings.header (blind_by (code_in settings s) begun).0)

        by_frame : (o : Outcome ℕ) → opened 16 room settings.header s ≡ o
            → Alike (and_then (unpointed (opened 16 room settings.header s)) (λ code. extract_by (code_of (drop code s)) settings s (code + 2)))
            (and_then (unpointed (opened 16 room settings.header t)) (λ code. extract_by (code_of (drop code t)) settings t (code + 2)))
        by_frame (refused q) o = rw (← open', o) (inl (record { refusal = q; field = 0; place = 0 }, refl, refl))
        by_frame (done code) o =
            let r = then_done (unless Room901 (leb 16 room) room) (λ _. framed settings.header s) code o in
            let header : settings.header ≡ code = (passed Frame902 (is_framed settings.header s) settings.header code r.2).1 in
            let own = subst (Alike (extract_by (code_in settings s) settings s at)) (sym coded) (blind_by (code_in settings s) begun).1 in
            rw (← open', o) (subst (λ (k : ℕ). Alike (extract_by (code_of (drop k s)) settings s (k + 2)) (extract_by (code_of (drop k t)) settings t (k + 2))) header own)

pub blind_to_the_block : BlindToTheBlock
blind_to_the_block settings s t room place begun two = blind place s t two settings room begun
