-- What is read at a gate, of a file that is told.
use Rattle.std.proofs.Common.{◌≡◌, ℕ, ◌+◌, ◌<◌, ◌≤◌, true, false, List, length, slice_index, Option, Some, None, IfSome, IfOk, Result, Ok, Err, sym, ap, subst, ◌∙◌, arith}
use Rattle.byteorder.specs.Endian.{big_number}
use Rattle.engine_base.specs.Disk.{Holds}
use Rattle.file_model.specs.Sections.{part}
use Rattle.file_model.specs.Doublewrite.{is_odd}
use Rattle.file_model.specs.Blocks.{frames_len}
use Rattle.file_model.proofs.PartLemmas.{get_or-part, length-part, part-part, held_each, held_whole}
use Rattle.redo_log.specs.declared.place.Gate.{Gate}
use Rattle.redo_log.specs.declared.place.Gate.TheVariants.{Closed, Early, Open}
use Rattle.redo_log.specs.Scans.{IsGate, IsLength}

-- ---- the byte

module _ (o : Option (List ℕ)) (gate rest : ℕ) (whole : IfSome o (λ file. gate + rest ≤ length file)) where
  byte_is : (file byte : List ℕ) → 1 ≤ rest → length byte ≡ 1 → Holds file gate byte → slice_index (part file gate rest) 0 ≡ slice_index byte 0
  byte_is file byte some one holds = get_or-part file gate rest 0 some ∙ held_each file byte gate 0 holds (omega (arith, one))

  pub is_closed : (byte : List ℕ) → 1 ≤ rest → length byte ≡ 1 → is_odd (slice_index byte 0) ≡ false → IfSome o (λ file. Holds file gate byte) → IfSome o (λ file. IsGate Closed (part file gate rest))
  is_closed byte some one even holds = go o whole holds
    where
      go : (o : Option (List ℕ)) → IfSome o (λ file. gate + rest ≤ length file) → IfSome o (λ file. Holds file gate byte) → IfSome o (λ file. IsGate Closed (part file gate rest))
      go None whole holds = tt
      go (Some file) whole holds = ap is_odd (byte_is file byte some one holds) ∙ even

  pub is_short : (byte : List ℕ) → 1 ≤ rest → rest < 6 → length byte ≡ 1 → is_odd (slice_index byte 0) ≡ true → IfSome o (λ file. Holds file gate byte) → IfSome o (λ file. IsGate Early (part file gate rest))
  is_short byte some few one odd holds = go o whole holds
    where
      go : (o : Option (List ℕ)) → IfSome o (λ file. gate + rest ≤ length file) → IfSome o (λ file. Holds file gate byte) → IfSome o (λ file. IsGate Early (part file gate rest))
      go None whole holds = tt
      go (Some file) whole holds = (ap is_odd (byte_is file byte some one holds) ∙ odd, let len = length-part file gate rest whole in omega (arith, few, len))

  abbrev gate_of : Gate → List ℕ → Type 0
  gate_of g bytes = IsGate g bytes

  by_length : (g : Gate) (bytes : List ℕ) → is_odd (slice_index bytes 0) ≡ true → IsLength g bytes → IsGate g bytes
  by_length Closed bytes odd is = absurd is
  by_length Early bytes odd is = (odd, is)
  by_length (Open n) bytes odd is = (odd, is.0, is.1)

  pub is_by_length : {E : Type 0} (r : Result Gate E) (byte : List ℕ) (p : Option (List ℕ)) → p ≡ o → 1 ≤ rest → length byte ≡ 1 → is_odd (slice_index byte 0) ≡ true → IfSome o (λ file. Holds file gate byte)
      → IfOk r (λ g. IfSome p (λ file. IsLength g (part file gate rest))) → IfOk r (λ g. IfSome o (λ file. IsGate g (part file gate rest)))
  is_by_length {E} (Err e) byte p same some one odd holds is = tt
  is_by_length {E} (Ok g) byte p same some one odd holds is = go o whole holds (let P : Option (List ℕ) → Type 0 = λ q. IfSome q (λ file. IsLength g (part file gate rest)) in subst P same is)
    where
      go : (o : Option (List ℕ)) → IfSome o (λ file. gate + rest ≤ length file) → IfSome o (λ file. Holds file gate byte) → IfSome o (λ file. IsLength g (part file gate rest)) → IfSome o (λ file. IsGate g (part file gate rest))
      go None whole holds is = tt
      go (Some file) whole holds is = by_length g (part file gate rest) (ap is_odd (byte_is file byte some one holds) ∙ odd) is

  -- the length behind it

  len_is : (file bytes : List ℕ) → 6 ≤ rest → gate + rest ≤ length file → length bytes ≡ 4 → Holds file (gate + 1) bytes → frames_len (part file gate rest) ≡ big_number 4 bytes
  len_is file bytes some inside four holds =
      ap (big_number 4) (part-part file gate rest 1 4 inside (omega (arith, some)) ∙ held_whole file bytes (gate + 1) 4 holds four)

  pub length_early : (bytes : List ℕ) (n : ℕ) → 6 ≤ rest → length bytes ≡ 4 → n ≡ big_number 4 bytes → rest < 6 + n → IfSome o (λ file. Holds file (gate + 1) bytes) → IfSome o (λ file. IsLength Early (part file gate rest))
  length_early bytes n some four is past holds = go o whole holds
    where
      go : (o : Option (List ℕ)) → IfSome o (λ file. gate + rest ≤ length file) → IfSome o (λ file. Holds file (gate + 1) bytes) → IfSome o (λ file. IsLength Early (part file gate rest))
      go None whole holds = tt
      go (Some file) whole holds = let len = length-part file gate rest whole in let m = len_is file bytes some whole four holds in omega (arith, past, len, m, is)

  pub length_open : (bytes : List ℕ) (n : ℕ) → 6 ≤ rest → length bytes ≡ 4 → n ≡ big_number 4 bytes → 6 + n ≤ rest → IfSome o (λ file. Holds file (gate + 1) bytes) → IfSome o (λ file. IsLength (Open n) (part file gate rest))
  length_open bytes n some four is fits holds = go o whole holds
    where
      go : (o : Option (List ℕ)) → IfSome o (λ file. gate + rest ≤ length file) → IfSome o (λ file. Holds file (gate + 1) bytes) → IfSome o (λ file. IsLength (Open n) (part file gate rest))
      go None whole holds = tt
      go (Some file) whole holds = (is ∙ sym (len_is file bytes some whole four holds), let len = length-part file gate rest whole in omega (arith, fits, len))
