-- One event more: what a disk in memory reads as, and what a crash may leave of it.
use Rattle.std.proofs.Common.{◌≡◌, ◌⊎◌, inl, inr, ⊎_elim, ℕ, ◌+◌, ◌-◌, ◌<◌, ◌≤◌, true, false, List, [], ◌∷◌, ◌++◌, length, take, drop, Option, Ok, max, Contains, if◌then◌else◌, refl, sym, ap, ap₂, subst, ◌∙◌, arith}
use Rattle.std.proofs.Math.Arith.{lt_of_le-ne}
use Rattle.std.proofs.lemmas.Bool.{cases_eq}
use Rattle.std.proofs.lemmas.List.{append-nil, take_all, take-append-le, drop-append-le, length-drop, length-append}
use Rattle.engine_base.specs.Disk.{Torn, Only, Elapses, Follows, GoesOn}
use Rattle.engine_base.specs.Numbers.{raised}
use Rattle.mem_disk.specs.SureDisk.{overlaid}
use Rattle.mem_disk.specs.declared.mem_disk.Step.{Step}
use Rattle.mem_disk.specs.MemDisk.{Event, wrote, synced, event, events_in, total, Write, Settled, written_over, reads_as, after, fresh, Reaches, contents_of, IsImage, LeftSince, MemState, disk_state, contents_in, IsStopped, Refuses, KeepsMem, after_call, after_write, write_cost}
use Rattle.mem_disk.proofs.OverlaidLemmas.{Torn-overlaid, length-overlaid}

pub total_more : (steps : List Step) (s : Step) → total (steps ++ s ∷ []) ≡ total steps + s.len
total_more [] s = omega arith
total_more (x ∷ steps) s = let e = total_more steps s in omega (arith, e)

event_same : (x : Step) (pool bytes : List ℕ) → x.len ≤ length pool → event x (pool ++ bytes) ≡ event x pool
event_same x pool bytes inside = ap (λ (xs : List ℕ). if x.is_sync then synced else wrote x.at xs) (take-append-le x.len pool bytes inside)

pub events_more : (steps : List Step) (pool bytes : List ℕ) (s : Step) → total steps ≡ length pool → events_in (steps ++ s ∷ []) (pool ++ bytes) ≡ events_in steps pool ++ event s bytes ∷ []
events_more [] [] bytes s whole = refl
events_more [] (b ∷ pool) bytes s whole = absurd (omega (arith, whole))
events_more (x ∷ steps) pool bytes s whole =
    let short = length-drop x.len pool in
    let rest = events_more steps (drop x.len pool) bytes s (omega (arith, whole, short)) in
    ap₂ (λ (e : Event) (es : List Event). e ∷ es) (event_same x pool bytes (omega (arith, whole)))
    (ap (λ (xs : List ℕ). events_in (steps ++ s ∷ []) xs) (drop-append-le x.len pool bytes (omega (arith, whole))) ∙ rest)

pub after_more : (s : Settled) (events : List Event) (e : Event) → after s (events ++ e ∷ []) ≡ after (after s events) (e ∷ [])
after_more s [] e = refl
after_more s (wrote at bytes ∷ events) e = after_more (record { file = s.file; writes = s.writes ++ (at, bytes) ∷ [] }) events e
after_more s (synced ∷ events) e = after_more (record { file = reads_as s; writes = [] }) events e

-- a write more is made over the file that the others leave
pub written_more : (writes : List Write) (file : List ℕ) (w : Write) → written_over (writes ++ w ∷ []) file ≡ overlaid (written_over writes file) w.0 w.1
written_more [] file w = refl
written_more (x ∷ writes) file w = written_more writes (overlaid file x.0 x.1) w

reaches_more : (writes : List Write) (file c : List ℕ) (w : Write) → Reaches (writes ++ w ∷ []) file c → (d : List ℕ) × Reaches writes file d × Torn w.0 (length w.1) d c
reaches_more [] file c w (d, torn, same) = let P : List ℕ → Type 0 = λ x. Torn w.0 (length w.1) file x in (file, refl, subst P (sym same) torn)
reaches_more (x ∷ writes) file c w (d, torn, rest) = let all = reaches_more writes d c w rest in (all.0, (d, torn, all.1), all.2)

-- ---- a write, and a sync

pub contents_written : (base : List ℕ) (events : List Event) (at : ℕ) (bytes : List ℕ) → contents_of base (events ++ wrote at bytes ∷ []) ≡ overlaid (contents_of base events) at bytes
contents_written base events at bytes =
    let s = after (fresh base) events in
    ap reads_as (after_more (fresh base) events (wrote at bytes)) ∙ written_more s.writes s.file (at, bytes)

pub contents_synced : (base : List ℕ) (events : List Event) → contents_of base (events ++ synced ∷ []) ≡ contents_of base events
contents_synced base events = ap reads_as (after_more (fresh base) events synced)

pub image_written : (base : List ℕ) (events : List Event) (at : ℕ) (bytes : List ℕ) → Follows (Torn at (length bytes)) (IsImage base events) (IsImage base (events ++ wrote at bytes ∷ []))
image_written base events at bytes c (inl now) =
    let P : List ℕ → Type 0 = λ x. Torn at (length bytes) (contents_of base events) x in
    (contents_of base events, inl refl, subst P (sym (now ∙ contents_written base events at bytes)) (Torn-overlaid (contents_of base events) at bytes))
image_written base events at bytes c (inr reaches) =
    let P : Settled → Type 0 = λ s. Reaches s.writes s.file c in
    let s = after (fresh base) events in
    let all = reaches_more s.writes s.file c (at, bytes) (subst P (after_more (fresh base) events (wrote at bytes)) reaches) in
    (all.0, inr all.1, all.2)

pub image_synced : (base : List ℕ) (events : List Event) → Only (contents_of base events) (IsImage base (events ++ synced ∷ []))
image_synced base events c (inl now) = now ∙ contents_synced base events
image_synced base events c (inr reaches) = let P : Settled → Type 0 = λ s. Reaches s.writes s.file c in subst P (after_more (fresh base) events synced) reaches

-- ---- time

module _ (base : List ℕ) (events : List Event) (e : Event) where
  long : length (events ++ e ∷ []) ≡ length events + 1
  long = length-append events (e ∷ [])

  before : (k : ℕ) → k ≤ length events → take k (events ++ e ∷ []) ≡ take k events
  before k inside = take-append-le k events (e ∷ []) inside

  pub nothing_else : (t : ℕ) (c : List ℕ) → t ≤ length events → LeftSince base (events ++ e ∷ []) t c → LeftSince base events t c ⊎ IsImage base (events ++ e ∷ []) c
  nothing_else t c le (inl now) = inr now
  nothing_else t c le (inr (k, from, below, image)) =
      let len = long in
      let inside : k ≤ length events = omega (arith, below, len) in
      let P : List Event → Type 0 = λ es. IsImage base es c in
      let here = subst P (before k inside) image in
      elim (cases_eq k (length events)) [
        | inl same ↦ inl (inl (subst P (take_all k events (omega (arith, same))) here))
        | inr other ↦ inl (inr (k, from, lt_of_le-ne inside other, here))
      ]

  pub keeps : (t : ℕ) (c : List ℕ) → t ≤ length events → LeftSince base events t c → LeftSince base (events ++ e ∷ []) t c
  keeps t c le (inl now) =
      let len = long in
      let P : List Event → Type 0 = λ es. IsImage base es c in
      inr (length events, le, omega (arith, len), subst P (sym (before (length events) (omega arith) ∙ take_all (length events) events (omega arith))) now)
  keeps t c le (inr (k, from, below, image)) =
      let len = long in
      let P : List Event → Type 0 = λ es. IsImage base es c in
      inr (k, from, omega (arith, below, len), subst P (sym (before k (omega (arith, below)))) image)

-- a disk with one event more
pub elapses_more : (m n : MemState) (e : Event) → n.base ≡ m.base → n.events ≡ m.events ++ e ∷ [] → Elapses (disk_state m) (disk_state n)
elapses_more m n e base events =
    let P : List ℕ → List Event → Type 0 = λ b es. (later : length m.events ≤ length es) × ((t : ℕ) (c : List ℕ) → t ≤ length m.events → LeftSince b es t c → LeftSince m.base m.events t c ⊎ IsImage b es c)
    × ((t : ℕ) (c : List ℕ) → t ≤ length m.events → LeftSince m.base m.events t c → LeftSince b es t c) in
    let Q : List ℕ → Type 0 = λ b. P b n.events in
    let len = long m.base m.events e in
    let one : P m.base (m.events ++ e ∷ []) = (omega (arith, len), nothing_else m.base m.events e, keeps m.base m.events e) in
    let all = subst Q (sym base) (subst (P m.base) (sym events) one) in
    record { later = all.0; nothing_else = all.1; keeps = all.2 }

-- a disk with no event more
pub elapses_same : (m n : MemState) → n.base ≡ m.base → n.events ≡ m.events → Elapses (disk_state m) (disk_state n)
elapses_same m n base events =
    let P : List ℕ → List Event → Type 0 = λ b es. (later : length m.events ≤ length es) × ((t : ℕ) (c : List ℕ) → t ≤ length m.events → LeftSince b es t c → LeftSince m.base m.events t c ⊎ IsImage b es c)
    × ((t : ℕ) (c : List ℕ) → t ≤ length m.events → LeftSince m.base m.events t c → LeftSince b es t c) in
    let Q : List ℕ → Type 0 = λ b. P b n.events in
    let one : P m.base m.events = (omega arith, (λ t c le left. inl left), (λ t c le left. left)) in
    let all = subst Q (sym base) (subst (P m.base) (sym events) one) in
    record { later = all.0; nothing_else = all.1; keeps = all.2 }

-- ---- the disk's calls

-- a disk in memory, from its parts
abbrev pub mem : List ℕ → List Event → List ℕ → List ℕ → Option ℕ → ℕ → ℕ → ℕ → ℕ → ℕ → MemState
mem base events reads fails stop room used calls writes faults =
    record { base = base; events = events; reads = reads; fails = fails; stop_after = stop; room = room; used = used; calls = calls; writes = writes; faults = faults }

-- a call that is listed, past the stop, or past the room that is left is refused
pub refuses_of : (m n : MemState) (fails : List ℕ) (call more : ℕ) → m ≡ n → fails ≡ m.fails → call ≡ raised m.calls
    → Contains fails call ⊎ IsStopped m.stop_after m.writes ⊎ (m.room - m.used < 64 + more) → Refuses n more
refuses_of m n fails call more same listed numbered why =
    let P : MemState → Type 0 = λ s. Refuses s more in
    let L : List ℕ → Type 0 = λ xs. Contains xs (raised m.calls) in
    let C : ℕ → Type 0 = λ k. Contains fails k in
    subst P same (⊎_elim (λ a. inl (subst L listed (subst C numbered a))) (λ b. ⊎_elim (λ s. inr (inl s)) (λ r. inr (inr (omega (arith, r)))) b) why)

-- a call that is Ok, with no event and no fault more, does what every call does
pub goes_same : {T : Type 0} (m n : MemState) (x : T) → n.base ≡ m.base → n.events ≡ m.events → n.faults ≡ m.faults → GoesOn (disk_state m) (disk_state n) (Ok x)
goes_same m n x base events faults = record { tells = refl; time = elapses_same m n base events; cause = record { later = omega (arith, faults); device = λ is. cc }; plain = tt }

-- so does one with one event more
pub goes_more : {T : Type 0} (m n : MemState) (e : Event) (x : T) → n.base ≡ m.base → n.events ≡ m.events ++ e ∷ [] → n.faults ≡ m.faults → GoesOn (disk_state m) (disk_state n) (Ok x)
goes_more m n e x base events faults = record { tells = refl; time = elapses_more m n e base events; cause = record { later = omega (arith, faults); device = λ is. cc }; plain = tt }

-- the step of a sync
abbrev pub sync_step : Step
sync_step = record { is_sync = true; at = 0; len = 0 }

-- the step of a write of so many bytes at a place
abbrev pub write_step : ℕ → ℕ → Step
write_step at len = record { is_sync = false; at = at; len = len }

-- with the step of a sync behind the others, the events are those and a sync
pub events_synced : (steps steps' : List Step) (bytes : List ℕ) → total steps ≡ length bytes → steps' ≡ steps ++ sync_step ∷ [] → events_in steps' bytes ≡ events_in steps bytes ++ synced ∷ []
events_synced steps steps' bytes whole is =
    ap (λ (ss : List Step). events_in ss bytes) is ∙ ap (events_in (steps ++ sync_step ∷ [])) (sym (append-nil bytes)) ∙ events_more steps bytes [] sync_step whole

-- with the step of a write and its bytes behind the others, they are those and the write
pub events_written : (steps steps' : List Step) (bytes new bytes' : List ℕ) (at len : ℕ) → total steps ≡ length bytes → len ≡ length new → steps' ≡ steps ++ write_step at len ∷ [] → bytes' ≡ bytes ++ new
    → events_in steps' bytes' ≡ events_in steps bytes ++ wrote at new ∷ []
events_written steps steps' bytes new bytes' at len whole long is more =
    ap₂ events_in is more ∙ events_more steps bytes new (write_step at len) whole
    ∙ ap (λ (xs : List ℕ). events_in steps bytes ++ wrote at xs ∷ []) (take_all len new (omega (arith, long)))

-- a disk with room for a sync's record keeps its parts with the sync behind the others
pub keeps_synced : (base contents : List ℕ) (steps steps' : List Step) (bytes reads : List ℕ) (room used sc sc' bc rc cc : ℕ) → KeepsMem base contents steps bytes reads room used sc bc rc cc
    → steps' ≡ steps ++ sync_step ∷ [] → sc ≤ sc' → used + 64 ≤ room → KeepsMem base contents steps' bytes reads room (used + 64) sc' bc rc cc
keeps_synced base contents steps steps' bytes reads room used sc sc' bc rc cc k is grown fits =
    let t = total_more steps sync_step in
    let len : length steps' ≡ length steps + 1 = ap length is ∙ length-append steps (sync_step ∷ []) in
    let w = k.whole in
    let sf = k.steps_fit in
    let rf = k.reads_fit in
    let bf = k.bytes_fit in
    let cf = k.contents_fit in
    record {
      is = k.is ∙ sym (ap (contents_of base) (events_synced steps steps' bytes w is) ∙ contents_synced base (events_in steps bytes));
      whole = ap total is ∙ omega (arith, t, w);
      fits = fits;
      small = k.small;
      steps_fit = omega (arith, sf, len, grown);
      reads_fit = omega (arith, rf);
      bytes_fit = omega (arith, bf);
      contents_fit = omega (arith, cf);
    }

-- and with a write, where there is room for its record, its bytes and the file's growth
pub keeps_written : (base contents contents' : List ℕ) (steps steps' : List Step) (bytes bytes' reads new : List ℕ) (at len more room used sc sc' bc bc' rc cc cc' : ℕ) → KeepsMem base contents steps bytes reads room used sc bc rc cc
    → len ≡ length new → steps' ≡ steps ++ write_step at len ∷ [] → bytes' ≡ bytes ++ new → contents' ≡ overlaid contents at new → more ≡ length new + ((at + length new) - length contents)
    → sc ≤ sc' → bc ≤ bc' → cc ≤ cc' → used + (64 + more) ≤ room → KeepsMem base contents' steps' bytes' reads room (used + (64 + more)) sc' bc' rc cc'
keeps_written base contents contents' steps steps' bytes bytes' reads new at len more room used sc sc' bc bc' rc cc cc' k long is added over cost sg bg cg fits =
    let t = total_more steps (write_step at len) in
    let n : length steps' ≡ length steps + 1 = ap length is ∙ length-append steps (write_step at len ∷ []) in
    let b : length bytes' ≡ length bytes + length new = ap length added ∙ length-append bytes new in
    let o : length contents' ≡ max (length contents) (at + length new) = ap length over ∙ length-overlaid contents at new in
    let w = k.whole in
    let sf = k.steps_fit in
    let rf = k.reads_fit in
    let bf = k.bytes_fit in
    let cf = k.contents_fit in
    record {
      is = over ∙ ap (λ (xs : List ℕ). overlaid xs at new) k.is ∙ sym (ap (contents_of base) (events_written steps steps' bytes new bytes' at len w long is added) ∙ contents_written base (events_in steps bytes) at new);
      whole = ap total is ∙ omega (arith, t, w, b, long);
      fits = fits;
      small = k.small;
      steps_fit = omega (arith, sf, n, sg);
      reads_fit = omega (arith, rf);
      bytes_fit = omega (arith, bf, b, bg, cost);
      contents_fit = omega (arith, cf, o, cg, cost);
    }

-- a sync, from a disk whose call was counted
module _ (m old : MemState) (events : List Event) (counted : m ≡ after_call old) (is : events ≡ m.events ++ synced ∷ []) where
  base_is : m.base ≡ old.base
  base_is = ap (λ (s : MemState). s.base) counted

  events_is : events ≡ old.events ++ synced ∷ []
  events_is = is ∙ ap (λ (s : MemState). s.events ++ synced ∷ []) counted

  pub sync_durable : Only (contents_in old) (IsImage m.base events)
  sync_durable =
      let P : List ℕ → List Event → Type 0 = λ b es. Only (contents_in old) (IsImage b es) in
      let Q : List ℕ → Type 0 = λ b. P b events in
      subst Q (sym base_is) (subst (P old.base) (sym events_is) (image_synced old.base old.events))

  pub sync_seen : contents_of m.base events ≡ contents_in old
  sync_seen = ap₂ contents_of base_is events_is ∙ contents_synced old.base old.events

  pub sync_images : (c : List ℕ) → IsImage m.base events c → IsImage old.base old.events c
  sync_images c image = inl (sync_durable c image)

-- a write
module _ (m old : MemState) (events : List Event) (at : ℕ) (bytes : List ℕ) (counted : m ≡ after_call old) (is : events ≡ m.events ++ wrote at bytes ∷ []) where
  write_base : m.base ≡ old.base
  write_base = ap (λ (s : MemState). s.base) counted

  write_events : events ≡ old.events ++ wrote at bytes ∷ []
  write_events = is ∙ ap (λ (s : MemState). s.events ++ wrote at bytes ∷ []) counted

  pub write_contents : contents_of m.base events ≡ overlaid (contents_in old) at bytes
  write_contents = ap₂ contents_of write_base write_events ∙ contents_written old.base old.events at bytes

  pub write_images : Follows (Torn at (length bytes)) (IsImage old.base old.events) (IsImage m.base events)
  write_images =
      let P : List ℕ → List Event → Type 0 = λ b es. Follows (Torn at (length bytes)) (IsImage old.base old.events) (IsImage b es) in
      let Q : List ℕ → Type 0 = λ b. P b events in
      subst Q (sym write_base) (subst (P old.base) (sym write_events) (image_written old.base old.events at bytes))

-- a disk with a write's event, the room that it takes and a write more is the disk after it
pub write_ok : (m old : MemState) (events : List Event) (at : ℕ) (bytes : List ℕ) (more size writes : ℕ) → m ≡ after_call old → events ≡ m.events ++ wrote at bytes ∷ [] → more ≡ length bytes + ((at + length bytes) - size)
    → size ≡ length (contents_in old) → writes ≡ raised m.writes → mem m.base events m.reads m.fails m.stop_after m.room (m.used + (64 + more)) m.calls writes m.faults ≡ after_write old at bytes
write_ok m old events at bytes more size writes counted is cost sized raised_is =
    let c = cost ∙ ap (λ (s : ℕ). length bytes + ((at + length bytes) - s)) sized in
    ap (λ (es : List Event). mem m.base es m.reads m.fails m.stop_after m.room (m.used + (64 + more)) m.calls writes m.faults) is
    ∙ ap (λ (k : ℕ). mem m.base (m.events ++ wrote at bytes ∷ []) m.reads m.fails m.stop_after m.room (m.used + (64 + k)) m.calls writes m.faults) c
    ∙ ap (λ (w : ℕ). mem m.base (m.events ++ wrote at bytes ∷ []) m.reads m.fails m.stop_after m.room (m.used + (64 + write_cost old at (length bytes))) m.calls w m.faults) raised_is
    ∙ ap (λ (s : MemState). mem s.base (s.events ++ wrote at bytes ∷ []) s.reads s.fails s.stop_after s.room (s.used + (64 + write_cost old at (length bytes))) s.calls (raised s.writes) s.faults) counted
