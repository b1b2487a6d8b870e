-- A purge behind one of its events.
--     log_behind e l      its log, the first committed one
--     NextCan e last lobs l      what is to be known of the next record, where the event passes one
--     GoesOn      the event is made, and then the job is one again, over the store that it made
use Rattle.std.specs.Prelude.{List, Option, None}
use Rattle.page_model.specs.Pages.{Pages}
use Rattle.store_data.specs.Logs.{passed}
use Rattle.store_data.specs.Store.{Lob, purging, Log, Store}
use Rattle.store_model.specs.Steps.{last_in}
use Rattle.store_parts.specs.Stored.{row_pages}
use Rattle.row_dir.specs.declared.dir.RowDir.{RowDir}
use Rattle.purge.specs.declared.job.Purging.{Purging}
use Rattle.purge.specs.Events.{Event, begins, drops, frees, frees_index, passes, gives, ends, made}
use Rattle.purge.specs.Job.{AllDue, CanPurge, IsJob}
use Rattle.purge.specs.Made.{Steps}

abbrev pub log_behind : Event → Log → Log
log_behind begins l = record l { state = purging }
log_behind (drops page k v) l = l
log_behind (frees page) l = l
log_behind (frees_index page) l = l
log_behind (passes place trx u) l = passed l
log_behind (gives left) l = record l { pages = left }
log_behind ends l = l

-- of a record that goes on nothing, and behind the last event there is no log
abbrev pub NextCan : Event → List Lob → Log → Type 0
NextCan begins lobs l = Unit {0}
NextCan (drops page k v) lobs l = Unit {0}
NextCan (frees page) lobs l = Unit {0}
NextCan (frees_index page) lobs l = Unit {0}
NextCan (passes place trx u) lobs l = AllDue (CanPurge None lobs) (last_in (passed l).records)
NextCan (gives left) lobs l = Unit {0}
NextCan ends lobs l = ⊥

pub record GoesOn (told : Option Pages) (e : Event) (job : Purging) (dir : RowDir) (store : Store)
    (l : Log) (ls : List Log) (new : Pages) : Type 0 where
  pub steps : Steps e dir store new
  pub again : NextCan e (made e steps.made'.free (row_pages steps.made'.there) store).lobs l
      → IsJob told job steps.made'.there new
      (made e steps.made'.free (row_pages steps.made'.there) store) (log_behind e l) ls
