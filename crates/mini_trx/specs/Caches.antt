-- A cache of pages as a mini-transaction sees it, and how the copies in a mini-transaction stand to
-- it.
--     CacheState      what a cache shows
--     KeepsPages      a cache behind calls that leave its own pages alone
--     IsCoherent      these copies and writes are those of a mini-transaction over the cache
--     mtr_state      what such a mini-transaction shows as pages
use Rattle.std.specs.Prelude.{◌≡◌, ℕ, ◌-◌, ◌≤◌, Bool, true, IsTrue, List, [], length, map, Option, Some, option_map, All}
use Rattle.page_model.specs.Pages.{Pages, page_at, Write, all_written}
use Rattle.page_model.specs.Steps.{PageState, among, different, whole_room}
use Rattle.mini_trx.specs.Copies.{PageCopy, page_of}
use Rattle.page_model.specs.Frames.{IsInside, frame_bytes, max_group}

pub record CacheState : Type 0 where
  -- the cache's own pages, where they are told
  pub told : Option Pages
  pub count : ℕ
  -- how many of its frames are lent
  pub lent : ℕ
  -- whether its buffer is out, with a mini-transaction or with a group that isn't put yet
  pub out : Bool
  -- the pages that it is ready to take writes to
  pub holds : ℕ → Bool
  -- how often a device below has failed
  pub faults : ℕ

-- its own pages are as before, and it is ready for the same writes at least
pub record KeepsPages (old new : CacheState) : Type 0 where
  pub told : new.told ≡ old.told
  pub count : new.count ≡ old.count
  pub holds : (n : ℕ) → IsTrue (old.holds n) → IsTrue (new.holds n)

-- the copies are of different pages, each as the writes so far leave it, and the writes are to
-- these pages alone
pub record IsCoherent (c : CacheState) (copies : List PageCopy) (writes : List Write) : Type 0 where
  pub frames : c.lent ≤ length copies
  pub apart : different (map page_of copies) ≡ length copies
  pub held : All (λ copy. IsTrue (c.holds copy.page)) copies
  pub pinned : All (λ w. among (map page_of copies) w.page ≡ true) writes
  pub inside : All (IsInside c.count) writes
  pub bytes : (pages : Pages) → c.told ≡ Some pages
      → All (λ copy. copy.bytes ≡ page_at (all_written writes pages) copy.page) copies

-- the cache's pages with the writes made in them; these writes; the pages pinned; and what is left
-- of a whole group
abbrev pub mtr_state : CacheState → List PageCopy → List Write → PageState
mtr_state c copies writes = record {
  told = option_map (all_written writes) c.told;
  writes = Some writes;
  count = c.count;
  touched = map page_of copies;
  room = max_group - length (frame_bytes writes);
  faults = c.faults;
}

-- a mini-transaction at its beginning: the cache's own pages, no writes, no page pinned, and room
-- for a whole group
pub record Begins (c : CacheState) (s : PageState) : Type 0 where
  pub told : s.told ≡ c.told
  pub writes : s.writes ≡ Some []
  pub count : s.count ≡ c.count
  pub touched : s.touched ≡ []
  pub room : s.room ≡ whole_room
  pub faults : s.faults ≡ c.faults
