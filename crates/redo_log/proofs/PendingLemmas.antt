-- The groups that wait in a log's buffer.
use Rattle.std.proofs.Common.{◌≡◌, ℕ, ◌+◌, ◌-◌, ◌^◌, ◌<◌, ◌≤◌, Result, Ok, Err, OnErr, List, [], ◌∷◌, ◌++◌, length, take, drop, All, sym, ap, subst, ◌∙◌, arith}
use Rattle.std.proofs.lemmas.List.{append_assoc, length-append, length-drop, length-take-le, drop-append-le, drop_at, drop_all}
use Rattle.std.proofs.lemmas.List.Elements.{All-push, All-nil}
use Rattle.byteorder.specs.Endian.{big_bytes}
use Rattle.byteorder.specs.Numbers.{length-bytes_high_first}
use Rattle.page_model.specs.Frames.{frame_bytes}
use Rattle.page_model.proofs.GroupFrameLemmas.{length-frame}
use Rattle.file_model.specs.declared.layout.Layout.{Layout}
use Rattle.file_model.specs.Sections.{IsInLimits}
use Rattle.file_model.specs.Frames.{Group, FramesRead, frames_bytes, frames_of, IsLoggable}
use Rattle.file_model.specs.Blocks.{region_room, block_len, block_bytes}
use Rattle.file_model.proofs.FrameLemmas.{frames_more, frames_back}
use Rattle.redo_log.proofs.FlushLemmas.{taken_some}
use Rattle.redo_log.specs.Logs.{KeepsLog, pending_in, buffer_bytes, log_room, LogState, taken}

-- a log's state, from its parts
abbrev pub log_state : Layout → ℕ → ℕ → ℕ → List Group → LogState
log_state l region start used pending = record { layout = l; region = region; start = start; used = used; pending = pending }

-- a layout within the limits has at most 2^32 pages
pub few_pages : (l : Layout) → IsInLimits l → l.pages ≤ 2 ^ 32
few_pages l limits = omega (arith, limits.max_pages)

-- a buffer of these frames has these groups waiting
pub pending_are : (pages : ℕ) (buffer : List ℕ) (gs : List Group) → pages ≤ 2 ^ 32 → All (IsLoggable pages) gs → drop 4 buffer ≡ frames_bytes gs → pending_in pages buffer ≡ gs
pending_are pages buffer gs few good is = ap (λ (xs : List ℕ). (frames_of pages xs).groups) is ∙ ap (λ (f : FramesRead). f.groups) (frames_back pages gs few good)

-- a buffer of the frames of loggable groups keeps a log, where buffer and region have room
pub keeps_of : (l : Layout) (region used capacity : ℕ) (buffer : List ℕ) (gs : List Group) → IsInLimits l → region ≤ 1 → used ≤ region_room l → 4 ≤ length buffer → drop 4 buffer ≡ frames_bytes gs
    → All (IsLoggable l.pages) gs → length buffer < buffer_bytes → (4 < length buffer → used + (1 + length buffer) ≤ region_room l) → buffer_bytes ≤ capacity → KeepsLog l region used buffer capacity
keeps_of l region used capacity buffer gs limits which inside head is good short room enough =
    let are = pending_are l.pages buffer gs (few_pages l limits) good is in
    record {
      limits = limits;
      which = which;
      in_region = inside;
      head = head;
      frames = is ∙ ap frames_bytes (sym are);
      good = subst (All (IsLoggable l.pages)) (sym are) good;
      in_buffer = short;
      room = room;
      enough = enough;
    }

-- whether groups wait shows in the length
pub waits : (gs : List Group) → 0 < length (frames_bytes gs) → 1 ≤ length gs
waits [] some = absurd (omega arith)
waits (g ∷ gs) some = omega arith

pub takes : (gs : List Group) → 1 ≤ length gs → 6 ≤ length (frames_bytes gs)
takes [] some = absurd (omega arith)
takes (g ∷ gs) some = omega (arith, length-append (frame_bytes g) (frames_bytes gs), length-frame g)

-- a group is pending just where the buffer has more than its first four bytes
pub has_pending : (l : Layout) (region used capacity : ℕ) (buffer : List ℕ) → KeepsLog l region used buffer capacity → (4 < length buffer → 1 ≤ length (pending_in l.pages buffer)) × (1 ≤ length (pending_in l.pages buffer) → 4 < length buffer)
has_pending l region used capacity buffer keeps =
    let long : length (frames_bytes (pending_in l.pages buffer)) ≡ length buffer - 4 = ap length (sym keeps.frames) ∙ length-drop 4 buffer in (
      λ more. waits (pending_in l.pages buffer) (omega arith),
      λ some. let six = takes (pending_in l.pages buffer) some in omega arith,
    )

-- one group more
module _ (l : Layout) (region used capacity wider : ℕ) (buffer new : List ℕ) (g : Group) (keeps : KeepsLog l region used buffer capacity) (good : IsLoggable l.pages g)
    (is : new ≡ buffer ++ frame_bytes g) where
  more_frames : drop 4 new ≡ frames_bytes (pending_in l.pages buffer ++ g ∷ [])
  more_frames =
      ap (drop 4) is ∙ drop-append-le 4 buffer (frame_bytes g) keeps.head ∙ ap (λ (xs : List ℕ). xs ++ frame_bytes g) keeps.frames ∙ sym (frames_more (pending_in l.pages buffer) g)

  more_good : All (IsLoggable l.pages) (pending_in l.pages buffer ++ g ∷ [])
  more_good = All-push (IsLoggable l.pages) (pending_in l.pages buffer) g keeps.good good

  pub pending_more : pending_in l.pages new ≡ pending_in l.pages buffer ++ g ∷ []
  pending_more = pending_are l.pages new (pending_in l.pages buffer ++ g ∷ []) (few_pages l keeps.limits) more_good more_frames

  pub keeps_more : length (frame_bytes g) ≤ buffer_bytes - (1 + length buffer) → length (frame_bytes g) ≤ region_room l - (used + (1 + length buffer)) → capacity ≤ wider → KeepsLog l region used new wider
  keeps_more in_buffer in_region wide =
      let long : length new ≡ length buffer + length (frame_bytes g) = ap length is ∙ length-append buffer (frame_bytes g) in
      let six = length-frame g in
      keeps_of l region used wider new (pending_in l.pages buffer ++ g ∷ []) keeps.limits keeps.which keeps.in_region (omega (arith, keeps.head)) more_frames more_good
      (omega (arith, keeps.in_buffer)) (λ more. omega (arith, six)) (omega (arith, keeps.enough))

-- the room that is told is room in the buffer and in the region
pub room_of : (l : Layout) (region start used capacity : ℕ) (buffer : List ℕ) (n : ℕ) → KeepsLog l region used buffer capacity → n ≤ log_room (log_state l region start used (pending_in l.pages buffer))
    → (n ≤ buffer_bytes - (1 + length buffer)) × (n ≤ region_room l - (used + (1 + length buffer)))
room_of l region start used capacity buffer n keeps room =
    let long : length (frames_bytes (pending_in l.pages buffer)) ≡ length buffer - 4 = ap length (sym keeps.frames) ∙ length-drop 4 buffer in
    let same : block_len (pending_in l.pages buffer) ≡ 1 + length buffer = omega (arith, long, keeps.head) in
    (omega (arith, same), omega (arith, same))

-- ---- a buffer that was sealed for a flush, and opened again

-- length, frames and a closed gate make the block of the groups that are pending
pub sealed_is : (pages : ℕ) (buffer sealed : List ℕ) → drop 4 buffer ≡ frames_bytes (pending_in pages buffer) → sealed ≡ big_bytes 4 (length (drop 4 buffer)) ++ (drop 4 buffer ++ 0 ∷ []) → sealed ≡ block_bytes (pending_in pages buffer)
sealed_is pages buffer sealed frames is = is ∙ ap (λ (xs : List ℕ). big_bytes 4 (length xs) ++ (xs ++ 0 ∷ [])) frames

-- the bytes without the closed gate
abbrev pub unsealed : List Group → List ℕ
unsealed gs = big_bytes 4 (length (frames_bytes gs)) ++ frames_bytes gs

-- a block is what stands before its closed gate, and then the gate
pub sealed_split : (gs : List Group) → block_bytes gs ≡ unsealed gs ++ 0 ∷ []
sealed_split gs = sym (append_assoc (big_bytes 4 (length (frames_bytes gs))) (frames_bytes gs) (0 ∷ []))

module _ (l : Layout) (region used capacity wider : ℕ) (buffer new : List ℕ) (keeps : KeepsLog l region used buffer capacity) (wide : capacity ≤ wider) (is : new ≡ unsealed (pending_in l.pages buffer)) where
  abbrev gs : List Group
  gs = pending_in l.pages buffer

  new_frames : drop 4 new ≡ frames_bytes gs
  new_frames = ap (drop 4) is ∙ drop_at (big_bytes 4 (length (frames_bytes gs))) (frames_bytes gs) 4 (length-bytes_high_first 4 (length (frames_bytes gs)))

  new_length : length new ≡ length buffer
  new_length =
      ap length is ∙ length-append (big_bytes 4 (length (frames_bytes gs))) (frames_bytes gs)
      ∙ omega (arith, length-bytes_high_first 4 (length (frames_bytes gs)), ap length keeps.frames, length-drop 4 buffer, keeps.head)

  pub pending_unsealed : pending_in l.pages new ≡ gs
  pending_unsealed = pending_are l.pages new gs (few_pages l keeps.limits) keeps.good new_frames

  pub keeps_unsealed : KeepsLog l region used new wider
  keeps_unsealed =
      keeps_of l region used wider new gs keeps.limits keeps.which keeps.in_region (omega (arith, new_length, keeps.head)) new_frames keeps.good (omega (arith, new_length, keeps.in_buffer))
      (λ more. let r = keeps.room (omega (arith, new_length)) in omega (arith, new_length, r)) (omega (arith, keeps.enough))

  -- and emptied
  module _ (emptied : List ℕ) (most : ℕ) (cut : emptied ≡ take 4 new) (more : wider ≤ most) where
    emptied_length : length emptied ≡ 4
    emptied_length = ap length cut ∙ length-take-le 4 new (omega (arith, new_length, keeps.head))

    emptied_frames : drop 4 emptied ≡ frames_bytes []
    emptied_frames = drop_all 4 emptied (omega (arith, emptied_length))

    pub pending_emptied : pending_in l.pages emptied ≡ []
    pending_emptied = pending_are l.pages emptied [] (few_pages l keeps.limits) (All-nil (IsLoggable l.pages)) emptied_frames

    pub keeps_emptied : (after : ℕ) → after ≤ region_room l → KeepsLog l region after emptied most
    keeps_emptied after inside =
        keeps_of l region after most emptied [] keeps.limits keeps.which inside (omega (arith, emptied_length)) emptied_frames (All-nil (IsLoggable l.pages)) (omega (arith, emptied_length))
        (λ longer. absurd (omega (arith, emptied_length))) (omega (arith, keeps.enough))

-- the bytes that a flush takes
pub taken_is : (l : Layout) (region used capacity : ℕ) (buffer : List ℕ) → KeepsLog l region used buffer capacity → 1 ≤ length (pending_in l.pages buffer)
    → (taken (pending_in l.pages buffer) ≡ 1 + length buffer) × (used + block_len (pending_in l.pages buffer) ≤ region_room l) × (used + (1 + length buffer) ≤ region_room l)
taken_is l region used capacity buffer keeps some =
    let long : length (frames_bytes (pending_in l.pages buffer)) ≡ length buffer - 4 = ap length (sym keeps.frames) ∙ length-drop 4 buffer in
    let more = (has_pending l region used capacity buffer keeps).1 some in
    let room = keeps.room more in (
      sym (taken_some (pending_in l.pages buffer) some) ∙ omega (arith, long, keeps.head),
      omega (arith, long, room),
      room,
    )

-- what holds anyway holds where a call fails
pub on_err : {T E P : Type 0} (r : Result T E) → P → OnErr r P
on_err (Ok x) holds = tt
on_err (Err e) holds = holds
