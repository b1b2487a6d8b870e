-- The lists of logs changed: the logs of the list stand, and so does the store.
use Rattle.std.proofs.Common.{◌≡◌, ℕ, ◌+◌, List}
use Rattle.page_model.specs.Pages.{Pages}
use Rattle.page_model.specs.Spans.{SameOutside}
use Rattle.page_model.specs.Lists.{IsList, list_spans}
use Rattle.page_model.specs.Counts.{times}
use Rattle.undo_model.specs.Data.{Log}
use Rattle.undo_model.specs.LogLists.{all_pages, log_nodes, active_base, committed_base}
use Rattle.store_parts.specs.Stored.{Stored, with_active, with_committed}
use Rattle.store_parts.specs.Standing.{IsStoreBut, AreThere, AreOffNodes, AreOutIn}
use Rattle.store_pages.proofs.ActiveLemmas as Active
use Rattle.store_pages.proofs.CommittedLemmas as Committed

-- with the list of active logs linked anew, its logs stand, and the store is the one with these
pub active_listed : (own own1 own2 : List ℕ) (all logs : List Log) (old new : Pages) (s : Stored) → IsStoreBut own old s → AreThere old all → AreOutIn own1 all
    → ((n : ℕ) → times n (all_pages all) + times n own1 ≡ times n (all_pages s.active) + times n own)
    → ((n : ℕ) → times n (all_pages logs) + times n own2 ≡ times n (all_pages s.active) + times n own)
    → SameOutside (list_spans active_base (log_nodes all)) old new → AreOffNodes (list_spans active_base (log_nodes all)) s.committed
    → IsList new active_base (log_nodes logs) → (AreThere new all → AreThere new logs) → AreThere new all × IsStoreBut own2 new (with_active logs s)
active_listed own own1 own2 all logs old new s st there outs before after same off list stay =
    (Active.listed_stay own own1 all old new s st there before outs same, Active.relisted own own1 all old new s st there before outs same own2 logs off list stay after)

-- and so it is with the list of committed logs
pub committed_listed : (own own1 own2 : List ℕ) (all logs : List Log) (old new : Pages) (s : Stored) → IsStoreBut own old s → AreThere old all → AreOutIn own1 all
    → ((n : ℕ) → times n (all_pages all) + times n own1 ≡ times n (all_pages s.committed) + times n own)
    → ((n : ℕ) → times n (all_pages logs) + times n own2 ≡ times n (all_pages s.committed) + times n own)
    → SameOutside (list_spans committed_base (log_nodes all)) old new → AreOffNodes (list_spans committed_base (log_nodes all)) s.active
    → IsList new committed_base (log_nodes logs) → (AreThere new all → AreThere new logs) → AreThere new all × IsStoreBut own2 new (with_committed logs s)
committed_listed own own1 own2 all logs old new s st there outs before after same off list stay =
    (Committed.listed_stay own own1 all old new s st there before outs same, Committed.relisted own own1 all old new s st there before outs same own2 logs off list stay after)
