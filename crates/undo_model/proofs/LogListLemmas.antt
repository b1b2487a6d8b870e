-- All logs stay where nothing changes but bytes apart from them.
use Rattle.std.proofs.Common.{List, [], ◌∷◌, ◌++◌, map}
use Rattle.page_model.specs.Pages.{Pages}
use Rattle.page_model.specs.Spans.{Span, SameOutside, AreApart}
use Rattle.page_model.specs.Lists.{node_span}
use Rattle.page_model.proofs.ListLemmas.{list_kept}
use Rattle.undo_model.specs.Data.{Log}
use Rattle.undo_model.specs.Logs.{log_spans}
use Rattle.undo_model.specs.LogLists.{Logs, log_nodes, AreLogs, IsLogs, all_spans, logs_spans, active_base, committed_base}
use Rattle.undo_model.proofs.LogLemmas.{log_kept}

pub apart_split : (xs ss ts : List Span) → AreApart xs (ss ++ ts) → AreApart xs ss × AreApart xs ts
apart_split xs [] ts apart = (tt, apart)
apart_split xs (s ∷ ss) ts apart = let rest = apart_split xs ss ts apart.1 in ((apart.0, rest.0), rest.1)

nodes_apart : (xs : List Span) (logs : List Log) → AreApart xs (all_spans logs) → AreApart xs (map node_span (log_nodes logs))
nodes_apart xs [] apart = tt
nodes_apart xs (log ∷ more) apart = (apart.0, nodes_apart xs more (apart_split xs (log_spans log) (all_spans more) apart.1).1)

all_kept : (xs : List Span) (old new : Pages) (logs : List Log) → SameOutside xs old new → AreApart xs (all_spans logs) → AreLogs old logs → AreLogs new logs
all_kept xs old new [] same apart are = tt
all_kept xs old new (log ∷ more) same apart are =
    let parts = apart_split xs (log_spans log) (all_spans more) apart.1 in (log_kept xs old new log same parts.0 are.0, all_kept xs old new more same parts.1 are.1)

-- the logs of a store stay where nothing changes but bytes apart from them all
pub logs_kept : (xs : List Span) (old new : Pages) (logs : Logs) → SameOutside xs old new → AreApart xs (logs_spans logs) → IsLogs old logs → IsLogs new logs
logs_kept xs old new logs same apart is =
    let both = apart_split xs (all_spans logs.active) (all_spans logs.committed) apart.1.1 in record {
      active_list = list_kept xs old new active_base (log_nodes logs.active) same (apart.0, nodes_apart xs logs.active both.0) is.active_list;
      committed_list = list_kept xs old new committed_base (log_nodes logs.committed) same (apart.1.0, nodes_apart xs logs.committed both.1) is.committed_list;
      active_logs = all_kept xs old new logs.active same both.0 is.active_logs;
      committed_logs = all_kept xs old new logs.committed same both.1 is.committed_logs;
      active = is.active;
      committed = is.committed;
      once = is.once;
    }
