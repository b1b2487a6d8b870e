-- A store in pages, where some pages are handled apart from it.
--     mark pages n      1 where the map says that page n is used
--     IsStoreBut own pages s      the store stands there, but for the parts taken out of it; the
--         used pages are those of its
--         parts and `own`, and no page is of two
--     AreOn ns spans      these spans lie in pages among ns
--     AreOffNodes spans logs      and not on the nodes of logs that are taken out
use Rattle.std.specs.Prelude.{◌≡◌, ◌⊎◌, ℕ, ◌+◌, ◌≤◌, cond, nat_lt, List, [], ◌∷◌, ◌++◌, length, map}
use Rattle.page_model.specs.Pages.{Pages, field}
use Rattle.page_model.specs.Spans.{Span, SameOutside, IsApartFromAll}
use Rattle.page_model.specs.Lists.{IsList, base_span, node_span}
use Rattle.page_model.specs.Counts.{times}
use Rattle.page_space.specs.Map.{IsMap, bit, map_spans}
use Rattle.engine_base.specs.declared.header.TheConstants.{TYPE}
use Rattle.page_space.specs.declared.layout.TheConstants.{SYSTEM_TYPE, NEXT_TRX_ID, COMMITS, PURGED_COMMITS}
use Rattle.store_data.specs.Store.{Lob}
use Rattle.undo_model.specs.Data.{Log}
use Rattle.undo_model.specs.Logs.{log_node, IsLog}
use Rattle.undo_model.specs.LogLists.{log_nodes, active_base, committed_base}
use Rattle.undo_model.specs.Rows.{row_base, RowPage, IsRows}
use Rattle.lob_model.specs.Lobs.{IsLob}
use Rattle.store_parts.specs.Stored.{Stored, row_pages, held}

abbrev pub mark : Pages → ℕ → ℕ
mark pages n = cond (nat_lt n (length pages)) (bit pages n) 0

-- a log without pages is taken out: its node alone stands, in its list
abbrev pub IsOut : Log → Type 0
IsOut log = log.parts ≡ []

abbrev pub AreThere : Pages → List Log → Type 0
AreThere pages [] = Unit {0}
AreThere pages (log ∷ more) = (IsOut log ⊎ IsLog pages log) × AreThere pages more

abbrev pub AreLobs : Pages → List Lob → Type 0
AreLobs pages [] = Unit {0}
AreLobs pages (l ∷ more) = IsLob pages l × AreLobs pages more

pub record IsSystem (pages : Pages) (s : Stored) : Type 0 where
  pub type : field pages 0 TYPE 2 ≡ SYSTEM_TYPE
  pub next_trx : field pages 0 NEXT_TRX_ID 8 ≡ s.next_trx
  pub commits : field pages 0 COMMITS 8 ≡ s.commits
  pub purged : field pages 0 PURGED_COMMITS 8 ≡ s.purged

pub record IsStoreBut (own : List ℕ) (pages : Pages) (s : Stored) : Type 0 where
  pub system : IsSystem pages s
  pub map : IsMap pages
  pub rows : IsRows pages row_base s.rows
  pub active_list : IsList pages active_base (log_nodes s.active)
  pub committed_list : IsList pages committed_base (log_nodes s.committed)
  pub active : AreThere pages s.active
  pub committed : AreThere pages s.committed
  pub lobs : AreLobs pages s.lobs
  pub marks : (n : ℕ) → times n (held s) + times n own ≡ mark pages n

-- ---- what a call may write

abbrev pub AreOn : List ℕ → List Span → Type 0
AreOn ns [] = Unit {0}
AreOn ns (s ∷ more) = (1 ≤ times s.page ns) × AreOn ns more

abbrev pub AreOffNodes : List Span → List Log → Type 0
AreOffNodes spans [] = Unit {0}
AreOffNodes spans (log ∷ more) =
    (IsOut log → IsApartFromAll spans (node_span (log_node log.page))) × AreOffNodes spans more

-- the first pages of logs that are taken out are among `own`
abbrev pub AreOutIn : List ℕ → List Log → Type 0
AreOutIn own [] = Unit {0}
AreOutIn own (log ∷ more) = (IsOut log → 1 ≤ times log.page own) × AreOutIn own more

-- the call wrote the map and these spans, of pages that were or are its own; what became used is
-- its own, and what was given back was
pub record Moves (own own' : List ℕ) (spans : List Span) (old new : Pages) : Type 0 where
  pub outside : SameOutside (map_spans ++ spans) old new
  pub on : AreOn (own ++ own') spans
  pub map : IsMap new
  pub marks : (n : ℕ) → mark new n + times n own ≡ mark old n + times n own'

-- the same of a call on the rows, which writes the base of their list too
pub record MovesRows (own own' : List ℕ) (rows rows' : List RowPage) (spans : List Span)
    (old new : Pages) : Type 0 where
  pub outside : SameOutside (base_span row_base ∷ (map_spans ++ spans)) old new
  pub on : AreOn ((own ++ row_pages rows) ++ (own' ++ row_pages rows')) spans
  pub map : IsMap new
  pub stands : IsRows new row_base rows'
  pub marks : (n : ℕ) → mark new n + (times n own + times n (row_pages rows)) ≡ mark old n +
      (times n own' + times n (row_pages rows'))
