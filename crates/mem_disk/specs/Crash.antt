-- What a crash of a disk in memory leaves, by a number that picks which of the writes since the
-- last sync it keeps.
--     replayed      a file with the writes of these steps made
--     picked      the writes that are kept, of which the last may be cut short
--     crashed      the file of the last sync with these, of the size that the disk has, and zeros
--                  where nothing stands
use Rattle.std.specs.Prelude.{◌≡◌, ℕ, zero, suc, ◌+◌, ◌-◌, ◌/◌, ◌%◌, ◌≤◌, true, false, List, [], ◌∷◌, ◌++◌, length, take, drop, replicate, if◌then◌else◌, nat_le, ⊤}
use Rattle.mem_disk.specs.declared.mem_disk.Step.{Step}
use Rattle.mem_disk.specs.SureDisk.{overlaid}
use Rattle.mem_disk.specs.MemDisk.{Event, Write, Settled, written_over, reads_as, after, fresh}

-- the bytes of the steps stand one behind another
abbrev pub replayed : List Step → List ℕ → List ℕ → List ℕ
replayed [] bytes file = file
replayed (s ∷ steps) bytes file = replayed steps (drop s.len bytes)
    (if s.is_sync then file else overlaid file s.at (take s.len bytes))

-- each write ends within so many bytes
abbrev pub AreWithin : ℕ → List Step → Type 0
AreWithin size [] = ⊤
AreWithin size (s ∷ steps) = (s.is_sync ≡ false → s.at + s.len ≤ size) × AreWithin size steps

-- no sync is among the steps
abbrev pub AreWrites : List Step → Type 0
AreWrites [] = ⊤
AreWrites (s ∷ steps) = (s.is_sync ≡ false) × AreWrites steps

-- the steps end with a sync, or there are none
abbrev pub EndSynced : List Step → Type 0
EndSynced [] = ⊤
EndSynced (s ∷ []) = s.is_sync ≡ true
EndSynced (s ∷ x ∷ steps) = EndSynced (x ∷ steps)

-- ---- what a crash picks

-- the writes with another end in the place of the last
abbrev pub with_last : (Write → List Write) → List Write → List Write
with_last end [] = []
with_last end (w ∷ []) = end w
with_last end (w ∷ v ∷ writes) = w ∷ with_last end (v ∷ writes)

-- a write of the first half of its bytes, rounded down
abbrev pub halved : Write → Write
halved w = (w.0, take (length w.1 / 2) w.1)

-- by the rest of the number: none, all, all but the last, and with the first half of the last
abbrev pub picked : ℕ → List Write → List Write
picked zero writes = []
picked (suc zero) writes = writes
picked (suc (suc zero)) writes = with_last (λ w. []) writes
picked (suc (suc (suc k))) writes = with_last (λ w. halved w ∷ []) writes

abbrev pub padded : ℕ → List ℕ → List ℕ
padded size file = file ++ replicate (size - length file) 0

abbrev pub crash_of : ℕ → Settled → List ℕ
crash_of k s = padded (length (reads_as s)) (written_over (picked k s.writes) s.file)

abbrev pub crashed : ℕ → List ℕ → List Event → List ℕ
crashed pick base events = crash_of (pick % 4) (after (fresh base) events)

-- ---- reads

-- how many of the places are that one or behind it
abbrev pub reads_from : ℕ → List ℕ → ℕ
reads_from from [] = 0
reads_from from (at ∷ places) = (if nat_le from at then 1 else 0) + reads_from from places
