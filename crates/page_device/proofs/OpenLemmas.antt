-- What a file is opened as, by its first bytes.
use Rattle.std.proofs.Common.{inl, inr, ◌≡◌, ◌≢◌, ℕ, ◌+◌, ◌<◌, ◌≤◌, Bool, true, false, ◌&&◌, not, List, length, take, drop, Option, Some, None, IfSome, Result, Ok, Err, IfErr, subst, bytes_eq, ◌==◌, if◌then◌else◌, sym, ap, ap₂, ◌∙◌, arith}
use Rattle.std.proofs.lemmas.Bool.{cases_Bool, eqb-true, le-ltb, lt-ltb}
use Rattle.std.proofs.lemmas.List.{take-take}
use Rattle.engine_base.specs.Disk.{Holds}
use Rattle.byteorder.specs.Endian.{big_number}
use Rattle.byteorder.specs.Numbers.{big_from-take}
use Rattle.file_model.specs.declared.layout.Layout.{Layout}
use Rattle.file_model.specs.Sections.{part, wanted}
use Rattle.file_model.specs.Control.{magic, version, layout_of, are_in_limits, Opening, not_store, of_version, short, opens, by_length, by_limits, by_version, opening}
use Rattle.file_model.proofs.PartLemmas.{held_part}
use Rattle.page_device.specs.declared.opening.OpenError.{OpenError}
use Rattle.page_device.specs.declared.opening.OpenError.TheVariants.{Fault, NotStore, Version, Short}
use Rattle.page_device.specs.Opening.{answer_of, IsAnswerFor, IsCause, IsNoFault}

number_part : (xs : List ℕ) (k : ℕ) → big_number 4 (part xs k 4) ≡ big_number 4 (drop k xs)
unfolding part
number_part xs k = big_from-take 0 4 4 (drop k xs) (omega arith)

-- the test for equality of different numbers is false
pub not_equal : (a b : ℕ) → a ≢ b → (a == b) ≡ false
not_equal a b other = elim (cases_Bool (a == b)) [ inl same ↦ absurd (other (eqb-true a b same)) | inr no_same ↦ no_same ]

module _ (file head : List ℕ) (size : length head ≡ 20) (holds : Holds file 0 head) (control : 4_096 ≤ length file) where
  pub front : take 8 file ≡ take 8 head
  front = sym (take-take 8 20 file (omega arith)) ∙ ap (λ (n : ℕ). take 8 (take n file)) (sym size) ∙ ap (take 8) holds.each

  pub number_at : (k : ℕ) → k + 4 ≤ 20 → big_number 4 (drop k file) ≡ big_number 4 (drop k head)
  number_at k low =
      sym (number_part file k) ∙ ap (λ (n : ℕ). big_number 4 (part file n 4)) (let e : k ≡ 0 + k = omega arith in e) ∙ ap (big_number 4) (held_part file head 0 k 4 holds (omega (arith, size, low))) ∙ number_part head k

  by_magic : Bool → Opening
  by_magic t = if t then by_version file else not_store

  pub opened : opening file ≡ (if bytes_eq magic (take 8 file) then by_version file else not_store)
  unfolding opening
  opened = ap (λ (t : Bool). if not t && bytes_eq magic (take 8 file) then by_version file else not_store) (le-ltb _ _ control)

  pub no_magic : bytes_eq magic (take 8 head) ≡ false → opening file ≡ not_store
  no_magic is = opened ∙ ap (λ (t : Bool). if t then by_version file else not_store) (ap (λ (xs : List ℕ). bytes_eq magic xs) front ∙ is)

  module _ (right : bytes_eq magic (take 8 head) ≡ true) where
    begins : opening file ≡ by_version file
    begins = opened ∙ ap (λ (t : Bool). if t then by_version file else not_store) (ap (λ (xs : List ℕ). bytes_eq magic xs) front ∙ right)

    pub other_version : (v : ℕ) → v ≡ big_number 4 (drop 8 head) → (v == 1) ≡ false → opening file ≡ of_version v
    other_version v is other =
        begins ∙ ap (λ (n : ℕ). if n == version then by_limits file (layout_of file) else of_version n) (number_at 8 (omega arith) ∙ sym is)
        ∙ ap (λ (t : Bool). if t then by_limits file (layout_of file) else of_version v) other

    module _ (v : ℕ) (v_is : v ≡ big_number 4 (drop 8 head)) (one : (v == 1) ≡ true) (l : Layout) (pages : l.pages ≡ big_number 4 (drop 12 head)) (log : l.log_kib ≡ big_number 4 (drop 16 head)) where
      same_layout : layout_of file ≡ l
      same_layout = ap₂ (λ (p k : ℕ). (let x : Layout = record { pages = p; log_kib = k } in x)) (number_at 12 (omega arith) ∙ sym pages) (number_at 16 (omega arith) ∙ sym log)

      right_version : opening file ≡ by_limits file l
      right_version =
          begins ∙ ap (λ (n : ℕ). if n == version then by_limits file (layout_of file) else of_version n) (number_at 8 (omega arith) ∙ sym v_is)
          ∙ ap (λ (t : Bool). if t then by_limits file (layout_of file) else of_version v) one ∙ ap (by_limits file) same_layout

      pub past_limits : are_in_limits l ≡ false → opening file ≡ not_store
      past_limits out = right_version ∙ ap (λ (t : Bool). if t then by_length file l else not_store) out

      pub too_short : are_in_limits l ≡ true → length file < wanted l → opening file ≡ short (length file) (wanted l)
      too_short within less =
          right_version ∙ ap (λ (t : Bool). if t then by_length file l else not_store) within ∙ ap (λ (t : Bool). if t then short (length file) (wanted l) else opens l) (lt-ltb _ _ less)

      pub is_opened : are_in_limits l ≡ true → wanted l ≤ length file → opening file ≡ opens l
      is_opened within long =
          right_version ∙ ap (λ (t : Bool). if t then by_length file l else not_store) within ∙ ap (λ (t : Bool). if t then short (length file) (wanted l) else opens l) (le-ltb _ _ long)

-- ---- as the calls have it

pub answered : (r : Result Layout OpenError) (file : List ℕ) → r ≡ answer_of (opening file) → IsAnswerFor r file
answered (Ok l) file is = is
answered (Err (Fault f)) file is = tt
answered (Err NotStore) file is = is
answered (Err (Version v)) file is = is
answered (Err (Short length wanted)) file is = is

no_control : (file : List ℕ) → length file < 4_096 → opening file ≡ not_store
unfolding opening
no_control file less = ap (λ (t : Bool). if not t && bytes_eq magic (take 8 file) then by_version file else not_store) (lt-ltb _ _ less)

-- a file of fewer than 4,096 bytes is answered as no store
pub short_answer : (o p : Option (List ℕ)) (size : ℕ) → p ≡ o → IfSome p (λ file. size ≡ length file) → size < 4_096 → IfSome o (IsAnswerFor (Err NotStore))
short_answer None p size same is less = tt
short_answer (Some file) p size same is less =
    let T : Option (List ℕ) → Type 0 = λ q. IfSome q (λ file. size ≡ length file) in
    let long : size ≡ length file = subst T same is in
    ap answer_of (sym (no_control file (omega (arith, long, less))))

-- an answer that fits every file of this size and head is the answer for the file that is told
pub full_answer : (o p q : Option (List ℕ)) (size : ℕ) (head : List ℕ) (r : Result Layout OpenError) → p ≡ o → q ≡ o → IfSome p (λ file. size ≡ length file) → IfSome q (λ file. Holds file 0 head)
    → ((file : List ℕ) → length file ≡ size → Holds file 0 head → r ≡ answer_of (opening file)) → IfSome o (IsAnswerFor r)
full_answer None p q size head r one two is holds answer = tt
full_answer (Some file) p q size head r one two is holds answer =
    let T : Option (List ℕ) → Type 0 = λ x. IfSome x (λ file. size ≡ length file) in
    let S : Option (List ℕ) → Type 0 = λ x. IfSome x (λ file. Holds file 0 head) in
    answered r file (answer file (sym (subst T one is)) (subst S two holds))

-- an error that is no fault needs no cause
pub no_cause : (r : Result Layout OpenError) (before now : ℕ) → IfErr r IsNoFault → IfErr r (IsCause before now)
no_cause (Ok l) before now clear = tt
no_cause (Err (Fault f)) before now clear = absurd clear
no_cause (Err NotStore) before now clear = tt
no_cause (Err (Version v)) before now clear = tt
no_cause (Err (Short length wanted)) before now clear = tt
