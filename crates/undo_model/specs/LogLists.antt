-- The lists of active and of committed logs, which begin in page 0. The committed ones stand by
-- commit number; the first of them may be one whose purge has begun.
--     IsLogs pages logs, logs_spans      these logs and no others stand there; the bytes that this
--         rests on
use Rattle.std.specs.Prelude.{◌≡◌, ◌≢◌, ℕ, suc, List, [], ◌∷◌, ◌++◌, Option, Some}
use Rattle.page_model.specs.Pages.{Pages, Address}
use Rattle.page_model.specs.Spans.{Span}
use Rattle.page_model.specs.Lists.{IsList, base_span, node_span}
use Rattle.store_data.specs.Store.{active, committed}
use Rattle.undo_model.specs.Data.{Part, Log}
use Rattle.undo_model.specs.Logs.{log_node, IsLog, log_spans}

abbrev pub active_base : Address
active_base = record { page = 0; at = 82 }

abbrev pub committed_base : Address
committed_base = record { page = 0; at = 98 }

-- all logs of a store; `purged` commits have been purged
pub record Logs : Type 0 where
  pub active : List Log
  pub committed : List Log
  pub purged : ℕ

abbrev pub log_nodes : List Log → List Address
log_nodes [] = []
log_nodes (log ∷ more) = log_node log.page ∷ log_nodes more

abbrev pub AreLogs : Pages → List Log → Type 0
AreLogs pages [] = Unit {0}
AreLogs pages (log ∷ more) = IsLog pages log × AreLogs pages more

abbrev pub AreActive : List Log → Type 0
AreActive [] = Unit {0}
AreActive (log ∷ more) = (log.state ≡ active) × AreActive more

-- behind the first
abbrev pub AreWaiting : ℕ → List Log → Type 0
AreWaiting n [] = Unit {0}
AreWaiting n (log ∷ more) = (log.state ≡ committed) × (log.commit ≡ n) × AreWaiting (suc n) more

-- with this number and those behind it
abbrev pub AreCommitted : ℕ → List Log → Type 0
AreCommitted n [] = Unit {0}
AreCommitted n (log ∷ more) = (log.state ≢ active) × (log.commit ≡ n) × AreWaiting (suc n) more

-- ---- each page is of one log

abbrev pub pages_in : List Part → List ℕ
pages_in [] = []
pages_in (p ∷ older) = p.page ∷ pages_in older

abbrev pub all_pages : List Log → List ℕ
all_pages [] = []
all_pages (log ∷ more) = pages_in log.parts ++ all_pages more

abbrev pub IsNoneOf : ℕ → List ℕ → Type 0
IsNoneOf n [] = Unit {0}
IsNoneOf n (m ∷ more) = (n ≢ m) × IsNoneOf n more

abbrev pub AreDifferent : List ℕ → Type 0
AreDifferent [] = Unit {0}
AreDifferent (n ∷ more) = IsNoneOf n more × AreDifferent more

pub record IsLogs (pages : Pages) (logs : Logs) : Type 0 where
  pub active_list : IsList pages active_base (log_nodes logs.active)
  pub committed_list : IsList pages committed_base (log_nodes logs.committed)
  pub active_logs : AreLogs pages logs.active
  pub committed_logs : AreLogs pages logs.committed
  pub active : AreActive logs.active
  pub committed : AreCommitted (suc logs.purged) logs.committed
  pub once : AreDifferent (0 ∷ all_pages (logs.active ++ logs.committed))

-- of the first pages' nodes and of all else on the logs' pages
abbrev pub all_spans : List Log → List Span
all_spans [] = []
all_spans (log ∷ more) = node_span (log_node log.page) ∷ log_spans log ++ all_spans more

abbrev pub logs_spans : Logs → List Span
logs_spans logs = base_span active_base ∷ base_span committed_base ∷ all_spans logs.active
    ++ all_spans logs.committed

abbrev pub IfLogs : Option Pages → (Pages → Logs → Type 0) → Type 0
IfLogs told Q = (pages : Pages) (logs : Logs) → told ≡ Some pages → IsLogs pages logs → Q pages logs
