-- One answer to every promise of the crates of the ciphers: words of bits, the permutations, the boxes, the cipher function, the key schedule,
-- DES, triple DES, words of bytes, odd parity, the ciphers under keys of bytes, and their calls.
-- Each line is over the contract of the function of its name, as the checker reads it for a caller. No line needs what a function
-- requires: outside it a contract promises nothing.
use Rattle.bits.proofs as Bits
use Rattle.bits.specs.contracts as BitsSays
use Rattle.permutations.proofs as Permutations
use Rattle.permutations.specs.contracts as PermutationsSays
use Rattle.sboxes.proofs as SBoxes
use Rattle.sboxes.specs.contracts as SBoxesSays
use Rattle.cipherfunction.proofs as CipherFunction
use Rattle.cipherfunction.specs.contracts as CipherFunctionSays
use Rattle.keyschedule.proofs as KeySchedule
use Rattle.keyschedule.specs.contracts as KeyScheduleSays
use Rattle.des.proofs as Des
use Rattle.des.specs.contracts as DesSays
use Rattle.tripledes.proofs as TripleDes
use Rattle.tripledes.specs.contracts as TripleDesSays
use Rattle.words.proofs as Words
use Rattle.words.specs.contracts as WordsSays
use Rattle.parity.proofs as Parity
use Rattle.parity.specs.contracts as ParitySays
use Rattle.ciphers.proofs as Ciphers
use Rattle.ciphers.specs.contracts as CiphersSays
use Rattle.ciphercalls.proofs as CipherCalls
use Rattle.ciphercalls.specs.contracts as CipherCallsSays
use Rattle.claims_functions.specs.Once.{Settled}

-- every public function of bits
pub record BitsSettled : Type 0 where
  pub exchange : Settled BitsSays.exchange.ended Bits.exchange.Reads.Learnt
  pub look_up : Settled BitsSays.look_up.ended Bits.look_up.Reads.Learnt

-- every public function of permutations
pub record PermutationsSettled : Type 0 where
  pub initial : Settled PermutationsSays.initial.ended Permutations.initial.Reads.Learnt
  pub inverse : Settled PermutationsSays.inverse.ended Permutations.inverse.Reads.Learnt
  pub choice1 : Settled PermutationsSays.choice1.ended Permutations.choice1.Reads.Learnt

-- every public function of sboxes
pub record SBoxesSettled : Type 0 where
  pub through : Settled SBoxesSays.through.ended SBoxes.through.Reads.Learnt

-- every public function of cipherfunction
pub record CipherFunctionSettled : Type 0 where
  pub f : Settled CipherFunctionSays.f.ended CipherFunction.f.Reads.Learnt

-- every public function of keyschedule
pub record KeyScheduleSettled : Type 0 where
  pub subkeys : Settled KeyScheduleSays.subkeys.ended KeySchedule.subkeys.Reads.Learnt

-- every public function of des
pub record DesSettled : Type 0 where
  pub onward : Settled DesSays.onward.ended Des.onward.Reads.Learnt
  pub parted : Settled DesSays.parted.ended Des.parted.Reads.Learnt
  pub interchange : Settled DesSays.interchange.ended Des.interchange.Reads.Learnt
  pub preoutput : Settled DesSays.preoutput.ended Des.preoutput.Reads.Learnt
  pub computed_by : Settled DesSays.computed_by.ended Des.computed_by.Reads.Learnt

-- every public function of tripledes
pub record TripleDesSettled : Type 0 where
  pub computed_by : Settled TripleDesSays.computed_by.ended TripleDes.computed_by.Reads.Learnt

-- every public function of words
pub record WordsSettled : Type 0 where
  pub word_of : Settled WordsSays.word_of.ended Words.word_of.Reads.Learnt
  pub put_bytes : Settled WordsSays.put_bytes.ended Words.put_bytes.Reads.Learnt

-- every public function of parity
pub record ParitySettled : Type 0 where
  pub odd_parity : Settled ParitySays.odd_parity.ended Parity.odd_parity.Reads.Learnt

-- every public function of ciphers
pub record CiphersSettled : Type 0 where
  pub des_word : Settled CiphersSays.des_word.ended Ciphers.des_word.Reads.Learnt
  pub is_lab_key : Settled CiphersSays.is_lab_key.ended Ciphers.is_lab_key.Reads.Learnt
  pub triple_word : Settled CiphersSays.triple_word.ended Ciphers.triple_word.Reads.Learnt

-- every public function of ciphercalls
pub record CipherCallsSettled : Type 0 where
  pub des : Settled CipherCallsSays.des.ended CipherCalls.des.Reads.Learnt
  pub triple : Settled CipherCallsSays.triple.ended CipherCalls.triple.Reads.Learnt
  pub key_check : Settled CipherCallsSays.key_check.ended CipherCalls.key_check.Reads.Learnt
