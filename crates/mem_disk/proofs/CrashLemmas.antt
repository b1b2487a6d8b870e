-- What a crash leaves by its number has the disk's size, and is an image.
use Rattle.std.proofs.Common.{◌≡◌, inr, ℕ, zero, suc, ◌+◌, ◌-◌, ◌/◌, ◌%◌, ◌≤◌, max, List, [], ◌∷◌, ◌++◌, length, take, replicate, Result, Ok, Err, IfOk, refl, sym, ap, ap₂, subst, ◌∙◌, arith, rules}
use Rattle.std.proofs.lemmas.List.{append-nil, take_all, length-take-le, places, same_lists}
use Rattle.engine_base.specs.Disk.{Torn}
use Rattle.mem_disk.specs.SureDisk.{overlaid}
use Rattle.mem_disk.specs.MemDisk.{Event, Write, Settled, written_over, reads_as, after, fresh, Reaches, contents_of, IsImage}
use Rattle.mem_disk.specs.Crash.{with_last, halved, picked, padded, crash_of, crashed}
use Rattle.mem_disk.proofs.OverlaidLemmas.{Torn-overlaid, length-overlaid}

-- ---- what a crash leaves is an image

padded_whole : (size : ℕ) (file : List ℕ) → size ≤ length file → padded size file ≡ file
padded_whole size file long = let none : size - length file ≡ 0 = omega (arith, long) in ap (λ (n : ℕ). file ++ replicate n 0) none ∙ append-nil file

length_padded : (size : ℕ) (file : List ℕ) → length (padded size file) ≡ max size (length file)
length_padded size file = search (rules, places)

padded_twice : (m n : ℕ) (file : List ℕ) → m ≤ n → padded n (padded m file) ≡ padded n file
padded_twice m n file le = same_lists _ _ (search (rules, places)) (λ k d h. grind (arith, places))

written_length : (ws : List Write) (xs ys : List ℕ) → length xs ≡ length ys → length (written_over ws xs) ≡ length (written_over ws ys)
written_length [] xs ys same = same
written_length (w ∷ ws) xs ys same =
    let a = length-overlaid xs w.0 w.1 in
    let b = length-overlaid ys w.0 w.1 in
    written_length ws (overlaid xs w.0 w.1) (overlaid ys w.0 w.1) (omega (arith, a, b, same))

written_longer : (ws : List Write) (file : List ℕ) → length file ≤ length (written_over ws file)
written_longer [] file = omega arith
written_longer (w ∷ ws) file =
    let a = length-overlaid file w.0 w.1 in
    let more = written_longer ws (overlaid file w.0 w.1) in
    omega (arith, a, more)

-- a write of which nothing came, or its first bytes alone
torn_padded : (file : List ℕ) (at n : ℕ) → Torn at n file (padded (max (length file) (at + n)) file)
torn_padded file at n = record {
  no_shorter = search (rules, places);
  no_longer = search (rules, places);
  before = same_lists _ _ (search (rules, places)) (λ k d h. grind (arith, places));
  after = same_lists _ _ (search (rules, places)) (λ k d h. grind (arith, places));
}

torn_first : (file : List ℕ) (at h : ℕ) (bytes : List ℕ) → h ≤ length bytes → Torn at (length bytes) file (padded (max (length file) (at + length bytes)) (overlaid file at (take h bytes)))
unfolding overlaid
torn_first file at h bytes le = record {
  no_shorter = search (rules, places);
  no_longer = search (rules, places);
  before = same_lists _ _ (search (rules, places)) (λ k d h. grind (arith, places));
  after = same_lists _ _ (search (rules, places)) (λ k d h. grind (arith, places));
}

reaches_none : (ws : List Write) (file : List ℕ) → Reaches ws file (padded (length (written_over ws file)) file)
reaches_none [] file = padded_whole (length file) file (omega arith)
reaches_none (w ∷ ws) file =
    let d = padded (max (length file) (w.0 + length w.1)) file in
    let one = length_padded (max (length file) (w.0 + length w.1)) file in
    let over = length-overlaid file w.0 w.1 in
    let same = written_length ws d (overlaid file w.0 w.1) (omega (arith, one, over)) in
    let more = written_longer ws (overlaid file w.0 w.1) in
    let c = padded_twice (max (length file) (w.0 + length w.1)) (length (written_over ws (overlaid file w.0 w.1))) file (omega (arith, over, more)) in
    let P : List ℕ → Type 0 = λ xs. Reaches ws d xs in
    (d, torn_padded file w.0 (length w.1), subst P (ap (λ (n : ℕ). padded n d) same ∙ c) (reaches_none ws d))

reaches_all : (ws : List Write) (file : List ℕ) → Reaches ws file (written_over ws file)
reaches_all [] file = refl
reaches_all (w ∷ ws) file = (overlaid file w.0 w.1, Torn-overlaid file w.0 w.1, reaches_all ws (overlaid file w.0 w.1))

-- the last write is torn as `end` leaves it
abbrev Tears : (Write → List Write) → Type 0
Tears end = (file : List ℕ) (w : Write) → Torn w.0 (length w.1) file (padded (length (overlaid file w.0 w.1)) (written_over (end w) file))

reaches_last : (end : Write → List Write) → Tears end → (ws : List Write) (file : List ℕ) → Reaches ws file (padded (length (written_over ws file)) (written_over (with_last end ws) file))
reaches_last end tears [] file = padded_whole (length file) file (omega arith)
reaches_last end tears (w ∷ []) file = (padded (length (overlaid file w.0 w.1)) (written_over (end w) file), tears file w, refl)
reaches_last end tears (w ∷ v ∷ ws) file = (overlaid file w.0 w.1, Torn-overlaid file w.0 w.1, reaches_last end tears (v ∷ ws) (overlaid file w.0 w.1))

tears_all : Tears (λ w. [])
tears_all file w = let P : ℕ → Type 0 = λ n. Torn w.0 (length w.1) file (padded n file) in subst P (sym (length-overlaid file w.0 w.1)) (torn_padded file w.0 (length w.1))

tears_half : Tears (λ w. halved w ∷ [])
tears_half file w =
    let h = length w.1 / 2 in
    let P : ℕ → Type 0 = λ n. Torn w.0 (length w.1) file (padded n (overlaid file w.0 (take h w.1))) in
    subst P (sym (length-overlaid file w.0 w.1)) (torn_first file w.0 h w.1 (omega arith))

reaches_crash : (k : ℕ) (s : Settled) → Reaches s.writes s.file (crash_of k s)
reaches_crash zero s = reaches_none s.writes s.file
reaches_crash (suc zero) s = let P : List ℕ → Type 0 = λ c. Reaches s.writes s.file c in subst P (sym (padded_whole (length (reads_as s)) (reads_as s) (omega arith))) (reaches_all s.writes s.file)
reaches_crash (suc (suc zero)) s = reaches_last (λ w. []) tears_all s.writes s.file
reaches_crash (suc (suc (suc k))) s = reaches_last (λ w. halved w ∷ []) tears_half s.writes s.file

-- what a crash leaves by its number is an image
pub crash_is_image : (pick : ℕ) (base : List ℕ) (events : List Event) → IsImage base events (crashed pick base events)
crash_is_image pick base events = inr (reaches_crash (pick % 4) (after (fresh base) events))

-- ---- the image of a record

cut_shorter : (end : Write → List Write) → ((file : List ℕ) (w : Write) → length (written_over (end w) file) ≤ length (overlaid file w.0 w.1)) → (ws : List Write) (file : List ℕ)
    → length (written_over (with_last end ws) file) ≤ length (written_over ws file)
cut_shorter end shorter [] file = omega arith
cut_shorter end shorter (w ∷ []) file = shorter file w
cut_shorter end shorter (w ∷ v ∷ ws) file = cut_shorter end shorter (v ∷ ws) (overlaid file w.0 w.1)

half_shorter : (file : List ℕ) (w : Write) → length (overlaid file w.0 (take (length w.1 / 2) w.1)) ≤ length (overlaid file w.0 w.1)
half_shorter file w =
    let whole = length-overlaid file w.0 w.1 in
    let half = length-overlaid file w.0 (take (length w.1 / 2) w.1) in
    let short = length-take-le (length w.1 / 2) w.1 (omega arith) in
    omega (arith, whole, half, short)

picked_shorter : (k : ℕ) (s : Settled) → length (written_over (picked k s.writes) s.file) ≤ length (reads_as s)
picked_shorter zero s = written_longer s.writes s.file
picked_shorter (suc zero) s = omega arith
picked_shorter (suc (suc zero)) s = cut_shorter (λ w. []) (λ file w. let long = length-overlaid file w.0 w.1 in omega (arith, long)) s.writes s.file
picked_shorter (suc (suc (suc k))) s = cut_shorter (λ w. halved w ∷ []) half_shorter s.writes s.file

-- it has the size that the disk reads as
pub padded_as : (pick : ℕ) (base : List ℕ) (events : List Event) (size : ℕ) (image : List ℕ) → size ≡ length (contents_of base events)
    → (let s = after (fresh base) events in written_over (picked (pick % 4) s.writes) s.file ≡ image) → take size image ++ replicate (size - length image) 0 ≡ crashed pick base events
padded_as pick base events size image is same =
    let s = after (fresh base) events in
    let short = picked_shorter (pick % 4) s in
    let len = ap length same in
    ap (λ (xs : List ℕ). xs ++ replicate (size - length image) 0) (take_all size image (omega (arith, short, len, is))) ∙ ap₂ padded is (sym same)

-- where there is an answer, it is an image
pub answer_is_image : {A E : Type 0} (items : A → List ℕ) (r : Result A E) (pick : ℕ) (base base' : List ℕ) (events events' : List Event)
    → base ≡ base' → events ≡ events' → IfOk r (λ c. items c ≡ crashed pick base events) → IfOk r (λ c. IsImage base' events' (items c))
answer_is_image items (Ok c) pick base base' events events' same after_is is =
    let P : List ℕ → Type 0 = λ b. IsImage b events' (items c) in
    let Q : List Event → Type 0 = λ es. IsImage base es (items c) in
    subst P same (subst Q after_is (subst (IsImage base events) (sym is) (crash_is_image pick base events)))
answer_is_image items (Err e) pick base base' events events' same after_is is = tt
