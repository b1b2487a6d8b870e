-- The steps of a record made again on a file: up to the last sync, and of the writes since what a crash keeps.
use Rattle.std.proofs.Common.{◌≡◌, inl, inr, ℕ, zero, suc, ◌+◌, ◌-◌, ◌/◌, ◌<◌, ◌≤◌, max, Bool, true, false, List, [], ◌∷◌, ◌++◌, length, take, drop, get_or, if◌then◌else◌, refl, sym, ap, ap₂, subst, ◌∙◌, arith}
use Rattle.std.proofs.Math.Nat.{eq-or-lt_of_le}
use Rattle.std.proofs.lemmas.List.{append-nil, take_all, length-drop, length-append, length-take-le, take-take, append_assoc, drop-drop, drop_more, take-append-drop}
use Rattle.mem_disk.specs.SureDisk.{overlaid}
use Rattle.mem_disk.specs.declared.mem_disk.Step.{Step}
use Rattle.mem_disk.specs.MemDisk.{Event, wrote, synced, event, events_in, total, Write, Settled, written_over, reads_as, after, fresh, contents_of}
use Rattle.mem_disk.specs.Crash.{replayed, AreWithin, AreWrites, EndSynced, with_last, halved, picked}
use Rattle.mem_disk.proofs.OverlaidLemmas.{length-overlaid}
use Rattle.mem_disk.proofs.MemDiskLemmas.{written_more}

-- ---- the steps up to the last sync

-- the steps up to a sync end with it
pub ends_synced : (steps : List Step) (n : ℕ) (d : Step) → n < length steps → (get_or steps n d).is_sync ≡ true → EndSynced (take (suc n) steps)
ends_synced [] n d inside is = absurd (omega (arith, inside))
ends_synced (s ∷ []) zero d inside is = is
ends_synced (s ∷ []) (suc n) d inside is = absurd (omega (arith, inside))
ends_synced (s ∷ x ∷ steps) zero d inside is = is
ends_synced (s ∷ x ∷ steps) (suc n) d inside is = ends_synced (x ∷ steps) n d (omega (arith, inside)) is

-- an event is told by whether its step is a sync
event_is : (b : Bool) (x : Step) (pool : List ℕ) → x.is_sync ≡ b → event x pool ≡ (if b then synced else wrote x.at (take x.len pool))
event_is b x pool is = ap (λ (b : Bool). if b then synced else wrote x.at (take x.len pool)) is

abbrev made : Step → List ℕ → List ℕ → Bool → List ℕ
made x pool file b = if b then file else overlaid file x.at (take x.len pool)

-- behind one step
reads_step : (b : Bool) (s : Settled) (x : Step) (pool : List ℕ) → x.is_sync ≡ b → reads_as (after s (event x pool ∷ [])) ≡ made x pool (reads_as s) x.is_sync
reads_step true s x pool is = ap (λ (e : Event). reads_as (after s (e ∷ []))) (event_is true x pool is) ∙ sym (ap (made x pool (reads_as s)) is)
reads_step false s x pool is =
    ap (λ (e : Event). reads_as (after s (e ∷ []))) (event_is false x pool is) ∙ written_more s.writes s.file (x.at, take x.len pool) ∙ sym (ap (made x pool (reads_as s)) is)

pub after_append : (s : Settled) (es fs : List Event) → after s (es ++ fs) ≡ after (after s es) fs
after_append s [] fs = refl
after_append s (wrote at bytes ∷ es) fs = after_append (record { file = s.file; writes = s.writes ++ (at, bytes) ∷ [] }) es fs
after_append s (synced ∷ es) fs = after_append (record { file = reads_as s; writes = [] }) es fs

-- what a file reads as behind these steps
pub reads_replayed : (s : Settled) (steps : List Step) (pool : List ℕ) → reads_as (after s (events_in steps pool)) ≡ replayed steps pool (reads_as s)
reads_replayed s [] pool = refl
reads_replayed s (x ∷ steps) pool =
    let es = events_in steps (drop x.len pool) in
    ap reads_as (after_append s (event x pool ∷ []) es) ∙ reads_replayed (after s (event x pool ∷ [])) steps (drop x.len pool)
    ∙ ap (replayed steps (drop x.len pool)) (reads_step x.is_sync s x pool refl)

replayed_append : (xs ys : List Step) (pool file : List ℕ) → replayed (xs ++ ys) pool file ≡ replayed ys (drop (total xs) pool) (replayed xs pool file)
replayed_append [] ys pool file = refl
replayed_append (x ∷ xs) ys pool file =
    replayed_append xs ys (drop x.len pool) (made x pool file x.is_sync)
    ∙ ap (λ (p : List ℕ). replayed ys p (replayed xs (drop x.len pool) (made x pool file x.is_sync))) (drop-drop (total xs) x.len pool)

events_append : (xs ys : List Step) (pool : List ℕ) → events_in (xs ++ ys) pool ≡ events_in xs pool ++ events_in ys (drop (total xs) pool)
events_append [] ys pool = refl
events_append (x ∷ xs) ys pool = ap (λ (es : List Event). event x pool ∷ es) (events_append xs ys (drop x.len pool) ∙ ap (λ (p : List ℕ). events_in xs (drop x.len pool) ++ events_in ys p) (drop-drop (total xs) x.len pool))

-- the writes of steps without a sync
abbrev writes_in : List Step → List ℕ → List Write
writes_in [] pool = []
writes_in (x ∷ xs) pool = (x.at, take x.len pool) ∷ writes_in xs (drop x.len pool)

after_writes : (s : Settled) (ys : List Step) (pool : List ℕ) → AreWrites ys → after s (events_in ys pool) ≡ record { file = s.file; writes = s.writes ++ writes_in ys pool }
after_writes s [] pool are = ap (λ (ws : List Write). record { file = s.file; writes = ws }) (sym (append-nil s.writes))
after_writes s (y ∷ ys) pool are =
    let w : Write = (y.at, take y.len pool) in
    ap (λ (e : Event). after s (e ∷ events_in ys (drop y.len pool))) (event_is false y pool are.0)
    ∙ after_writes (record { file = s.file; writes = s.writes ++ w ∷ [] }) ys (drop y.len pool) are.1
    ∙ ap (λ (ws : List Write). record { file = s.file; writes = ws }) (append_assoc s.writes (w ∷ []) (writes_in ys (drop y.len pool)))

-- behind steps that end with a sync nothing is left to lose
after_synced : (s : Settled) (x : Step) (xs : List Step) (pool : List ℕ) → EndSynced (x ∷ xs) → after s (events_in (x ∷ xs) pool) ≡ fresh (reads_as (after s (events_in (x ∷ xs) pool)))
after_synced s x [] pool ends =
    let is = ap (λ (e : Event). after s (e ∷ [])) (event_is true x pool ends) in
    is ∙ ap (λ (r : Settled). fresh (reads_as r)) (sym is)
after_synced s x (y ∷ ys) pool ends =
    let es = events_in (y ∷ ys) (drop x.len pool) in
    let split = after_append s (event x pool ∷ []) es in
    split ∙ after_synced (after s (event x pool ∷ [])) y ys (drop x.len pool) ends ∙ ap (λ (r : Settled). fresh (reads_as r)) (sym split)

settled_file : (base : List ℕ) (xs : List Step) (pool : List ℕ) → EndSynced xs → after (fresh base) (events_in xs pool) ≡ fresh (replayed xs pool base)
settled_file base [] pool ends = refl
settled_file base (x ∷ xs) pool ends = after_synced (fresh base) x xs pool ends ∙ ap fresh (reads_replayed (fresh base) (x ∷ xs) pool)

-- what stands behind steps up to a sync and writes since
settled_parts : (base : List ℕ) (xs ys : List Step) (pool : List ℕ) → EndSynced xs → AreWrites ys
    → after (fresh base) (events_in (xs ++ ys) pool) ≡ record { file = replayed xs pool base; writes = writes_in ys (drop (total xs) pool) }
settled_parts base xs ys pool ends are =
    ap (after (fresh base)) (events_append xs ys pool) ∙ after_append (fresh base) (events_in xs pool) (events_in ys (drop (total xs) pool))
    ∙ ap (λ (s : Settled). after s (events_in ys (drop (total xs) pool))) (settled_file base xs pool ends)
    ∙ after_writes (fresh (replayed xs pool base)) ys (drop (total xs) pool) are

-- ---- the last write

-- the writes since, of which the last is cut by `end`
cut_last : (end : Write → List Write) (d : Step) (y : Step) (ys : List Step) (pool file : List ℕ) → AreWrites (y ∷ ys) → (let k = length ys in let l = get_or (y ∷ ys) k d in
    written_over (with_last end (writes_in (y ∷ ys) pool)) file ≡ written_over (end (l.at, take l.len (drop (total (take k (y ∷ ys))) pool))) (replayed (take k (y ∷ ys)) pool file))
cut_last end d y [] pool file are = refl
cut_last end d y (z ∷ zs) pool file are =
    let rest = drop y.len pool in
    let k = length zs in
    let l = get_or (z ∷ zs) k d in
    cut_last end d z zs rest (overlaid file y.at (take y.len pool)) are.1
    ∙ ap₂ (λ (p f : List ℕ). written_over (end (l.at, take l.len p)) f) (drop-drop (total (take k (z ∷ zs))) y.len pool)
    (ap (replayed (take k (z ∷ zs)) rest) (sym (ap (made y pool file) are.0)))

take_past : (xs ys : List Step) (k : ℕ) → take (length xs + k) (xs ++ ys) ≡ xs ++ take k ys
take_past [] ys k = ap (λ (m : ℕ). take m ys) (omega arith)
take_past (x ∷ xs) ys k = let n : suc (length xs) + k ≡ suc (length xs + k) = omega arith in ap (λ (m : ℕ). take m (x ∷ (xs ++ ys))) n ∙ ap (λ (zs : List Step). x ∷ zs) (take_past xs ys k)

get_past : (xs ys : List Step) (k : ℕ) (d : Step) → get_or (xs ++ ys) (length xs + k) d ≡ get_or ys k d
get_past [] ys k d = ap (λ (m : ℕ). get_or ys m d) (omega arith)
get_past (x ∷ xs) ys k d = let n : suc (length xs) + k ≡ suc (length xs + k) = omega arith in ap (λ (m : ℕ). get_or (x ∷ (xs ++ ys)) m d) n ∙ get_past xs ys k d

total_append : (xs ys : List Step) → total (xs ++ ys) ≡ total xs + total ys
total_append [] ys = omega arith
total_append (x ∷ xs) ys = let e = total_append xs ys in omega (arith, e)

-- what a crash leaves of the writes since the last sync, before it is padded
abbrev CutAt : (Write → List Write) → Step → List ℕ → List Step → List ℕ → ℕ → Type 0
CutAt end d base steps pool m = let s = after (fresh base) (events_in steps pool) in let l = get_or steps m d in
    written_over (with_last end s.writes) s.file ≡ written_over (end (l.at, take l.len (drop (total (take m steps)) pool))) (replayed (take m steps) pool base)

cut_at : (end : Write → List Write) (d : Step) (base : List ℕ) (xs : List Step) (y : Step) (ys : List Step) (pool : List ℕ) → EndSynced xs → AreWrites (y ∷ ys) → CutAt end d base (xs ++ y ∷ ys) pool (length xs + length ys)
cut_at end d base xs y ys pool ends are =
    let k = length ys in
    let file = replayed xs pool base in
    let rest = drop (total xs) pool in
    let zs = take k (y ∷ ys) in
    let at : take (length xs + k) (xs ++ y ∷ ys) ≡ xs ++ zs = take_past xs (y ∷ ys) k in
    let G : Step → List ℕ → List ℕ → List ℕ = λ l p f. written_over (end (l.at, take l.len p)) f in
    let parts = settled_parts base xs (y ∷ ys) pool ends are in
    let there = get_past xs (y ∷ ys) k d in
    let dropped : drop (total (xs ++ zs)) pool ≡ drop (total zs) rest = ap (λ (n : ℕ). drop n pool) (total_append xs zs) ∙ sym (drop-drop (total zs) (total xs) pool) in
    ap (λ (s : Settled). written_over (with_last end s.writes) s.file) parts ∙ cut_last end d y ys rest file are
    ∙ ap (λ (l : Step). G l (drop (total zs) rest) (replayed zs rest file)) (sym there)
    ∙ ap₂ (G (get_or (xs ++ y ∷ ys) (length xs + k) d)) (sym dropped) (sym (replayed_append xs zs pool base))
    ∙ ap (λ (ss : List Step). G (get_or (xs ++ y ∷ ys) (length xs + k) d) (drop (total ss) pool) (replayed ss pool base)) (sym at)

-- ---- each write ends within the file

made_longer : (b : Bool) (x : Step) (pool file : List ℕ) → length file ≤ length (made x pool file b)
made_longer true x pool file = omega arith
made_longer false x pool file = let long = length-overlaid file x.at (take x.len pool) in omega (arith, long)

longer : (steps : List Step) (pool file : List ℕ) → length file ≤ length (replayed steps pool file)
longer [] pool file = omega arith
longer (x ∷ steps) pool file =
    let one = made_longer x.is_sync x pool file in
    let more = longer steps (drop x.len pool) (made x pool file x.is_sync) in
    omega (arith, one, more)

-- a write ends within the file that it leaves
made_within : (x : Step) (pool file : List ℕ) → x.len ≤ length pool → x.is_sync ≡ false → x.at + x.len ≤ length (made x pool file x.is_sync)
made_within x pool file inside is =
    let long = length-overlaid file x.at (take x.len pool) in
    let short = length-take-le x.len pool inside in
    let same : length (made x pool file x.is_sync) ≡ length (overlaid file x.at (take x.len pool)) = ap (λ (b : Bool). length (made x pool file b)) is in
    omega (arith, long, short, same)

within_more : (n m : ℕ) (steps : List Step) → n ≤ m → AreWithin n steps → AreWithin m steps
within_more n m [] le are = tt
within_more n m (x ∷ steps) le are = ((λ is. let at = are.0 is in omega (arith, at, le)), within_more n m steps le are.1)

-- each write of a record ends within what the disk reads as
pub steps_within : (steps : List Step) (pool file : List ℕ) → total steps ≤ length pool → AreWithin (length (replayed steps pool file)) steps
steps_within [] pool file whole = tt
steps_within (x ∷ steps) pool file whole =
    let short = length-drop x.len pool in
    let next = made x pool file x.is_sync in
    let more = longer steps (drop x.len pool) next in
    ((λ is. let one = made_within x pool file (omega (arith, whole)) is in omega (arith, one, more)), steps_within steps (drop x.len pool) next (omega (arith, whole, short)))

-- and so does each of the first
pub first_within : (n size : ℕ) (steps : List Step) → AreWithin size steps → AreWithin size (take n steps)
first_within zero size steps are = tt
first_within (suc n) size [] are = tt
first_within (suc n) size (x ∷ steps) are = (are.0, first_within n size steps are.1)

-- one of them
pub one_within : (k size : ℕ) (steps : List Step) (d : Step) → k < length steps → AreWithin size steps → (get_or steps k d).is_sync ≡ false → (get_or steps k d).at + (get_or steps k d).len ≤ size
one_within k size [] d inside are is = absurd (omega (arith, inside))
one_within zero size (x ∷ steps) d inside are is = are.0 is
one_within (suc k) size (x ∷ steps) d inside are is = one_within k size steps d (omega (arith, inside)) are.1 is

-- behind the last sync there are writes alone
pub is_write : (n k : ℕ) (steps : List Step) (d : Step) → n ≤ k → k < length steps → AreWrites (drop n steps) → (get_or steps k d).is_sync ≡ false
is_write n k [] d le inside are = absurd (omega (arith, inside))
is_write zero zero (x ∷ steps) d le inside are = are.0
is_write zero (suc k) (x ∷ steps) d le inside are = is_write zero k steps d (omega arith) (omega (arith, inside)) are.1
is_write (suc n) zero (x ∷ steps) d le inside are = absurd (omega (arith, le))
is_write (suc n) (suc k) (x ∷ steps) d le inside are = is_write n k steps d (omega (arith, le)) (omega (arith, inside)) are

-- the bytes of a step stand behind those of the steps before it
pub total_first : (k : ℕ) (steps : List Step) (d : Step) → k < length steps → total (take k steps) + (get_or steps k d).len ≤ total steps
total_first k [] d inside = absurd (omega (arith, inside))
total_first zero (x ∷ steps) d inside = omega arith
total_first (suc k) (x ∷ steps) d inside = let more = total_first k steps d (omega (arith, inside)) in omega (arith, more)

-- the first steps have at most as many bytes as all
pub total_take : (n : ℕ) (steps : List Step) → total (take n steps) ≤ total steps
total_take zero steps = omega arith
total_take (suc n) [] = omega arith
total_take (suc n) (x ∷ steps) = let more = total_take n steps in omega (arith, more)

-- the first half of what stands first
pub half_of : (n : ℕ) (xs : List ℕ) → n ≤ length xs → take (length (take n xs) / 2) (take n xs) ≡ take (n / 2) xs
half_of n xs inside =
    let short = length-take-le n xs inside in
    ap (λ (m : ℕ). take (m / 2) (take n xs)) short ∙ take-take (n / 2) n xs (omega arith)

-- ---- where a crash's steps end

none_behind : (n : ℕ) (steps : List Step) → n ≡ length steps → drop n steps ≡ []
none_behind zero [] all = refl
none_behind zero (x ∷ steps) all = absurd (omega (arith, all))
none_behind (suc n) [] all = refl
none_behind (suc n) (x ∷ steps) all = none_behind n steps (omega (arith, all))

module _ (base : List ℕ) (steps : List Step) (pool : List ℕ) (n : ℕ) (inside : n ≤ length steps) (are : AreWrites (drop n steps)) (ends : EndSynced (take n steps)) where
  parts : after (fresh base) (events_in steps pool) ≡ record { file = replayed (take n steps) pool base; writes = writes_in (drop n steps) (drop (total (take n steps)) pool) }
  parts = ap (λ (ss : List Step). after (fresh base) (events_in ss pool)) (sym (take-append-drop n steps)) ∙ settled_parts base (take n steps) (drop n steps) pool ends are

  -- none of the writes since
  pub cut_none : (after (fresh base) (events_in steps pool)).file ≡ replayed (take n steps) pool base
  cut_none = ap (λ (s : Settled). s.file) parts

  -- there are none
  pub cut_nothing : (end : Write → List Write) → n ≡ length steps → (let s = after (fresh base) (events_in steps pool) in written_over (with_last end s.writes) s.file ≡ replayed steps pool base)
  cut_nothing end all =
      let rest = drop (total (take n steps)) pool in
      let W : List Step → List ℕ = λ ys. written_over (with_last end (writes_in ys rest)) (replayed (take n steps) pool base) in
      ap (λ (s : Settled). written_over (with_last end s.writes) s.file) parts ∙ ap W (none_behind n steps all) ∙ ap (λ (ss : List Step). replayed ss pool base) (take_all n steps (omega (arith, all)))

  -- the last is cut
  pub cut_some : (end : Write → List Write) (d : Step) → n < length steps → CutAt end d base steps pool (length steps - 1)
  cut_some end d some = cut_behind (drop n steps) refl where
    cut_behind : (ys : List Step) → drop n steps ≡ ys → CutAt end d base steps pool (length steps - 1)
    cut_behind [] none = let short = length-drop n steps in let no = ap length none in absurd (omega (arith, short, no, some))
    cut_behind (y ∷ ys) is =
        let xs = take n steps in
        let whole : xs ++ y ∷ ys ≡ steps = ap (λ (zs : List Step). xs ++ zs) (sym is) ∙ take-append-drop n steps in
        let long = length-append xs (y ∷ ys) in
        let all = ap length whole in
        let at : length xs + length ys ≡ length steps - 1 = omega (arith, long, all) in
        let P : List Step → Type 0 = λ ss. CutAt end d base ss pool (length xs + length ys) in
        subst (CutAt end d base steps pool) at (subst P whole (cut_at end d base xs y ys pool ends (subst AreWrites is are)))

  -- all of them
  pub cut_all : reads_as (after (fresh base) (events_in steps pool)) ≡ replayed steps pool base
  cut_all = reads_replayed (fresh base) steps pool

  -- what is kept by a number is this file
  abbrev Picks : ℕ → List ℕ → Type 0
  Picks k image = let s = after (fresh base) (events_in steps pool) in written_over (picked k s.writes) s.file ≡ image

  -- a half of the last write
  pub picks_half : (k whole : ℕ) (d : Step) → k ≡ 3 → whole ≡ max n (length steps - 1) → whole < length steps → total steps ≤ length pool
      → (let l = get_or steps whole d in Picks k (overlaid (replayed (take whole steps) pool base) l.at (take (l.len / 2) (drop (total (take whole steps)) pool))))
  picks_half k whole d is kept some fits =
      let at : whole ≡ length steps - 1 = omega (arith, kept, some, inside) in
      let l = get_or steps whole d in
      let part = total_first whole steps d some in
      let short = length-drop (total (take whole steps)) pool in
      let H : Write → List Write = λ w. halved w ∷ [] in
      let cut = subst (CutAt H d base steps pool) (sym at) (cut_some H d (omega (arith, some, at, kept))) in
      let P : ℕ → Type 0 = λ j. Picks j (overlaid (replayed (take whole steps) pool base) l.at (take (l.len / 2) (drop (total (take whole steps)) pool))) in
      subst P (sym is) (cut ∙ ap (overlaid (replayed (take whole steps) pool base) l.at) (half_of l.len (drop (total (take whole steps)) pool) (omega (arith, part, fits, short))))

  -- no write stands behind the last sync
  pub picks_nothing : (k whole : ℕ) → k ≡ 3 → whole ≡ max n (length steps - 1) → length steps ≤ whole → Picks k (replayed (take whole steps) pool base)
  picks_nothing k whole is kept none =
      let all : n ≡ length steps = omega (arith, kept, none, inside) in
      let P : ℕ → Type 0 = λ j. Picks j (replayed (take whole steps) pool base) in
      subst P (sym is) (cut_nothing (λ w. halved w ∷ []) all ∙ ap (λ (ss : List Step). replayed ss pool base) (sym (take_all whole steps none)))

  -- whole writes alone
  pub picks_whole : (k whole : ℕ) → k < 3 → (k ≡ 0 → whole ≡ n) → (k ≡ 1 → whole ≡ length steps) → (2 ≤ k → whole ≡ max n (length steps - 1)) → Picks k (replayed (take whole steps) pool base)
  picks_whole zero whole small a b c = cut_none ∙ ap (λ (m : ℕ). replayed (take m steps) pool base) (sym (a refl))
  picks_whole (suc zero) whole small a b c = cut_all ∙ ap (λ (ss : List Step). replayed ss pool base) (sym (take_all whole steps (let e = b refl in omega (arith, e))))
  picks_whole (suc (suc zero)) whole small a b c = elim (eq-or-lt_of_le inside) [
    | inl all ↦ let e = c (omega arith) in
        cut_nothing (λ w. []) all ∙ ap (λ (ss : List Step). replayed ss pool base) (sym (take_all whole steps (omega (arith, e, all))))
    | inr some ↦ let e = c (omega arith) in let at : length steps - 1 ≡ whole = omega (arith, e, some) in
        cut_some (λ w. []) (record { is_sync = false; at = 0; len = 0 }) some ∙ ap (λ (m : ℕ). replayed (take m steps) pool base) at
  ]
  picks_whole (suc (suc (suc k))) whole small a b c = absurd (omega (arith, small))

-- each write of a record ends within so much room as the disk reads as
pub record_within : (base : List ℕ) (steps : List Step) (pool : List ℕ) (size cap : ℕ) → total steps ≡ length pool → size ≡ length (contents_of base (events_in steps pool)) → size ≤ cap → AreWithin cap steps
record_within base steps pool size cap whole is le =
    let same = ap length (reads_replayed (fresh base) steps pool) in
    within_more (length (replayed steps pool base)) cap steps (omega (arith, is, same, le)) (steps_within steps pool base (omega (arith, whole)))

-- what replaying keeps, of the steps that are left, their bytes and the file
abbrev pub Replays : List Step → List ℕ → List ℕ → ℕ → List ℕ → List ℕ → Type 0
Replays steps rest file cap all behind = (total steps ≤ length rest) × AreWithin cap steps × (replayed steps rest file ≡ all) × (drop (total steps) rest ≡ behind)

-- a step more
pub replays_on : (steps : List Step) (i : ℕ) (d : Step) (rest file : List ℕ) (cap cap' : ℕ) (all behind : List ℕ) → i < length steps → cap ≤ cap' → Replays (drop i steps) rest file cap all behind
    → (let x = get_or steps i d in Replays (drop (i + 1) steps) (drop x.len rest) (if x.is_sync then file else overlaid file x.at (take x.len rest)) cap' all behind)
replays_on steps i d rest file cap cap' all behind inside le kept =
    let x = get_or steps i d in
    let later = drop (i + 1) steps in
    let P : List Step → Type 0 = λ ss. Replays ss rest file cap all behind in
    let now = subst P (drop_more steps i d inside) kept in
    let short = length-drop x.len rest in
    let whole = now.0 in
    (omega (arith, whole, short), within_more cap cap' later le now.1.1, now.2, drop-drop (total later) x.len rest ∙ now.3)
