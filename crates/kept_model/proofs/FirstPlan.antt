-- The planning event, where the session has its log, and where the log is begun in it.
use Rattle.std.proofs.Common.{List, ◌≡◌, ℕ, true, Some, None, refl, sym, ap, ◌∙◌, length}
use Rattle.journal_model.specs.Documents.{Call, call_doc}
use Rattle.journal_model.specs.Journal.{Script, call, Reply, Opening}
use Rattle.journal_model.specs.Part.{is_ok_reply, newest, under_way}
use Rattle.journal_model.specs.Replies.{reply_to}
use Rattle.journal_model.specs.History.{one_made, newest_in, history}
use Rattle.store_data.specs.Store.{Store}
use Rattle.store_model.specs.History.{row_before}
use Rattle.store_model.specs.Events.{Plan}
use Rattle.store_model.specs.Moves.{MayChange}
use Rattle.store_model.specs.Owned.{owned, IsNotAmong}
use Rattle.store_model.specs.Consistent.{IsConsistent}
use Rattle.kept_model.specs.Engine.{Left, fetching, Engine}
use Rattle.kept_model.specs.Rows.{bytes_of}
use Rattle.kept_model.specs.Views.{will_show}
use Rattle.kept_model.specs.Kept.{Kept}
use Rattle.kept_model.specs.Plans.{Plans, plan_event}
use Rattle.kept_model.specs.Begun.{log_event, IsBegun}
use Rattle.kept_model.proofs.PlanKept.{begun_planned}
use Rattle.kept_model.proofs.FirstKept.{log_is_begun, consistent_kept, may_begin, task_is, trx_is}
use Rattle.read_model.specs.Flight.{Flight}

with_log : (o : Opening) (script : Script) (e : Engine) → Kept o script e → (s : ℕ) → IsBegun s o script e
with_log o script e kept s = record {
  calm = kept.calm;
  counts = kept.counts;
  consistent = kept.consistent;
  given = kept.given;
  zero = kept.zero;
  logs = kept.logs;
  stored = kept.stored;
  at = kept.at;
  records = (kept.logged s).records;
  logged = λ t apart. kept.logged t;
  locks = kept.locks;
  views = kept.views;
  reads = kept.reads;
  making = kept.making;
  fetched = kept.fetched;
}

-- the planning event keeps all parts, where the session has its log
pub plan_keeps : (o : Opening) (script : Script) (e : Engine) → Kept o script e → (s : ℕ) (p : Plan) (left : Left) (r : Reply) (next : Store) → Plans p e.store next
    → (read : Flight) → (e.sessions s).task ≡ fetching p.doc read → (e.sessions s).trx ≡ Some p.trx
    → (c : Call) → under_way script s e.journal ≡ Some (call c) → call_doc c ≡ p.doc → r ≡ reply_to c (newest o script s e.journal) → is_ok_reply r ≡ true
    → will_show left next.lobs (row_before next p.doc) ≡ bytes_of (one_made s c (newest_in s (history o script e.journal p.doc))).left
    → ((bytes : List ℕ) → will_show left next.lobs (row_before next p.doc) ≡ Some bytes → (row_before next p.doc).lob.length ≡ length bytes)
    → Kept o script (plan_event s p left r next e)
plan_keeps o script e kept s p left r next plans read fetched is c asked doc_is replies ok ends measured =
    begun_planned o script e s (with_log o script e kept s) p left r next plans read fetched is c asked doc_is replies ok ends measured

-- the same where the session's log is begun in the event
pub first_plan_keeps : (o : Opening) (script : Script) (e : Engine) → Kept o script e → (s page : ℕ) (p : Plan) (left : Left) (r : Reply) (next : Store)
    → IsNotAmong page (owned e.store) → Plans p (log_event s page e).store next → (read : Flight) → (e.sessions s).task ≡ fetching p.doc read → (e.sessions s).trx ≡ None → p.trx ≡ e.store.next_trx
    → (c : Call) → under_way script s e.journal ≡ Some (call c) → call_doc c ≡ p.doc → r ≡ reply_to c (newest o script s e.journal) → is_ok_reply r ≡ true
    → will_show left next.lobs (row_before next p.doc) ≡ bytes_of (one_made s c (newest_in s (history o script e.journal p.doc))).left
    → ((bytes : List ℕ) → will_show left next.lobs (row_before next p.doc) ≡ Some bytes → (row_before next p.doc).lob.length ≡ length bytes)
    → Kept o script (plan_event s p left r next (log_event s page e))
first_plan_keeps o script e kept s page p left r next unowned plans read fetched none is c asked doc_is replies ok ends measured =
    begun_planned o script (log_event s page e) s (log_is_begun o script e kept s p.doc page read fetched none unowned) p left r next plans read
    (task_is o script e kept s p.doc page read fetched none unowned) (trx_is o script e kept s p.doc page read fetched none unowned ∙ ap (λ (n : ℕ). Some n) (sym is)) c asked doc_is replies ok ends measured

-- its store is consistent, and the session may change the document there
pub log_may_change : (o : Opening) (script : Script) (e : Engine) → Kept o script e → (s page : ℕ) (p : Plan) (read : Flight)
    → (e.sessions s).task ≡ fetching p.doc read → (e.sessions s).trx ≡ None → p.trx ≡ e.store.next_trx → IsNotAmong page (owned e.store)
    → IsConsistent (log_event s page e).store × MayChange p (log_event s page e).store
log_may_change o script e kept s page p read fetched none is unowned =
    (consistent_kept o script e kept s p.doc page read fetched none unowned, may_begin o script e kept s p.doc page read fetched none unowned p is refl)
