-- A cache that keeps all its pages, as the definitions see it.
use Rattle.std.specs.Prelude.{◌≡◌, ◌-◌, nat_lt, false, length, Some, is_none, vec_len}
use Rattle.page_model.specs.Pages.{Pages}
use Rattle.page_model.specs.Steps.{max_pins}
use Rattle.mini_trx.specs.Caches.{CacheState}
use Rattle.mini_trx.specs.declared.resident.Resident.{Resident}

abbrev pub resident_pages : Resident → Pages
resident_pages r = r.pages.items

-- it is ready to take writes to any of its pages
abbrev pub cache_state : Resident → CacheState
cache_state r = record {
  told = Some (resident_pages r);
  count = length (resident_pages r);
  lent = max_pins - vec_len r.spare;
  out = is_none r.buffer;
  holds = λ n. nat_lt n (length (resident_pages r));
  faults = 0;
}

-- nothing is lent, and no group is still to be put
pub record IsIdle (r : Resident) : Type 0 where
  pub none_lent : (cache_state r).lent ≡ 0
  pub home : (cache_state r).out ≡ false

-- the same pages
abbrev pub SamePages : Resident → Resident → Type 0
SamePages a b = resident_pages b ≡ resident_pages a
