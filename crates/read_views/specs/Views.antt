-- Open views, each under its key.
--     ReadView, view_in      a view as it was opened; the view under a key
--     sees_of      whether a view sees what a transaction did
use Rattle.std.specs.Prelude.{◌≡◌, ◌⊎◌, ℕ, ◌≤◌, Bool, not, ◌==◌, ◌&&◌, List, map, Option, Some, None, option_map, nat_lt}
use Rattle.engine_base.specs.declared.ids.CommitNo.{CommitNo}
use Rattle.std.specs.List.{list_any}
use Rattle.slab.specs.Slab.{Slab, get, slab_len}
use Rattle.lob_pages.specs.declared.ids.TrxId.{TrxId}
use Rattle.read_views.specs.declared.views.View.{View}

-- the commits then, the session that opened it, the next transaction id then, and the ids of the
-- transactions that were active
pub record ReadView : Type 0 where
  pub commits : ℕ
  pub creator : ℕ
  pub next : ℕ
  pub active : List ℕ

abbrev pub sees_of : ReadView → ℕ → Bool
sees_of v trx = nat_lt trx v.next && not (list_any (λ n. n == trx) v.active)

abbrev pub view_of : View → ReadView
view_of v = record {
  commits = v.commits.0;
  creator = v.creator.0;
  next = v.next.0;
  active = v.active.items;
}

abbrev pub view_in : Slab View → ℕ → Option ReadView
view_in views key = option_map view_of (get views key)

abbrev pub open_count : Slab View → ℕ
open_count views = slab_len views

abbrev pub ids_of : List TrxId → List ℕ
ids_of ids = map (λ (t : TrxId). t.0) ids

-- the count of a view, or that of one before it where that is less
abbrev pub IsLesser : Option CommitNo → CommitNo → CommitNo → Type 0
IsLesser None commits n = n ≡ commits
IsLesser (Some other) commits n =
    (n.0 ≤ other.0) × (n.0 ≤ commits.0) × ((n ≡ other) ⊎ (n ≡ commits))
