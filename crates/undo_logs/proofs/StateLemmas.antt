-- A log whose purge begins: its state byte is written. And a log whose newest record is cut off in place.
use Rattle.std.proofs.Common.{◌≡◌, ◌≢◌, inl, inr, ℕ, List, [], ◌∷◌, Option, Some, None, refl, sym, ap, ◌∙◌, subst, lit≤}
use Rattle.page_model.specs.Pages.{Pages, Address}
use Rattle.page_model.specs.Spans.{span, SetsField, AreApart}
use Rattle.page_model.specs.Steps.{Told, Becomes}
use Rattle.page_model.proofs.FrameLemmas.{field_kept, address_kept}
use Rattle.page_model.proofs.ListLemmas.{list_kept}
use Rattle.page_model.proofs.StepLemmas.{told_step}
use Rattle.store_data.specs.Store.{LogState, active, committed, purging}
use Rattle.undo_model.specs.Data.{Entry, Part, Log}
use Rattle.undo_model.specs.Logs.{state_number, nodes_in, records_in, records_of, newest, pages_base, last_field, end_field, IsFilled, AreChained, IsPart, IsOther, AreParts, HasRecord, CommitIs, LastIs, NextIs, IsLog, body_spans, first_start, other_start}
use Rattle.undo_model.specs.LogSteps.{begun_purge}
use Rattle.undo_model.proofs.LogLemmas.{parts_kept, chains_kept}
use Rattle.std.specs.Option.{option_map}
use Rattle.page_model.specs.Lists.{first_of}
use Rattle.undo_model.specs.Logs.{log_node}
use Rattle.undo_model.specs.LogLists.{log_nodes}
use Rattle.undo_model.proofs.OptionLemmas.{not_some}
use Rattle.undo_logs.specs.Reads.{oldest_page}
use Rattle.store_data.specs.Store.{Log as ShownLog}
use Rattle.undo_model.specs.LogLists.{pages_in}
use Rattle.store_parts.specs.Shows.{log_of, entries_of, due_in}
use Rattle.store_parts.specs.Logs.{ChangesOldest}
use Rattle.store_parts.proofs.CountLemmas.{first_on}
use Rattle.undo_logs.specs.Changes.{with_purge_begun}
use Rattle.undo_logs.proofs.OwnLemmas.{writes_keep}
use Rattle.undo_logs.proofs.AppendLemmas.{apart_if, not_first, nodes_all}

state_apart : (pages : Pages) (log : ℕ) (parts : List Part) → AreParts pages log parts → AreApart (span log 52 1 ∷ []) (body_spans parts)
state_apart pages log [] are = tt
state_apart pages log (p ∷ []) are = ((apart_if log p.page 52 1 24 2 (λ e. inl (lit≤ tt)), tt), ((apart_if log p.page 52 1 50 2 (λ e. inl (lit≤ tt)), tt), ((apart_if log p.page 52 1 107 16_277 (λ e. inr (lit≤ tt)), tt), tt)))
state_apart pages log (p ∷ q ∷ older) are =
    let far : p.page ≢ log = not_first pages log p.page (q ∷ older) are.1 are.0.new in
    ((inl far, tt), ((inl far, tt), state_apart pages log (q ∷ older) are.1))

begun : (old new : Pages) (l : Log) → IsLog old l → l.state ≡ committed → SetsField l.page 52 1 3 old new → IsLog new (begun_purge l)
begun old new l log state sets =
    let xs = span l.page 52 1 ∷ [] in
    let same = sets.outside in
    let C : LogState → Type 0 = λ s. CommitIs s (Rattle.undo_model.specs.Logs.commit_field old l.page) l.commit in
    let N : LogState → Type 0 = λ s. NextIs s (Rattle.undo_model.specs.Logs.next_field old l.page) l.next in
    let commit : C committed = subst C state log.commit in
    let next : N committed = subst N state log.next in
    let apart = state_apart old l.page l.parts log.parts in
    record {
      state = sets.here;
      trx = field_kept xs old new l.page 53 6 same (apart_if l.page l.page 52 1 53 6 (λ e. inr (lit≤ tt)), tt) ∙ log.trx;
      commit = field_kept xs old new l.page 59 8 same (apart_if l.page l.page 52 1 59 8 (λ e. inr (lit≤ tt)), tt) ∙ commit;
      list = list_kept xs old new (pages_base l.page) (nodes_in l.parts) same
          ((apart_if l.page l.page 52 1 79 16 (λ e. inr (lit≤ tt)), tt), nodes_all xs l.parts (λ q. (apart_if l.page q 52 1 38 12 (λ e. inl (lit≤ tt)), tt))) log.list;
      parts = parts_kept xs old new l.page l.parts same apart log.parts;
      chain = chains_kept xs old new l.page l.parts same apart log.parts log.chain;
      last = tt;
      next = address_kept xs old new l.page 101 same (apart_if l.page l.page 52 1 101 6 (λ e. inr (lit≤ tt)), tt) ∙ next;
      due = log.due;
      numbered = log.numbered;
    }

-- what it shows changes in its state alone
begun_shows : (l : Log) → l.state ≡ committed → log_of (begun_purge l) ≡ with_purge_begun (log_of l)
begun_shows l is = ap (λ (rs : List Entry). let x : ShownLog = record { page = l.page; trx = l.trx; state = purging; number = l.commit; pages = pages_in l.parts; records = entries_of rs } in x)
    (sym (ap (λ (s : LogState). due_in s l.next (records_of l)) is))

pub begun_changes : (old new : Pages) (l : Log) → IsLog old l → l.state ≡ committed → SetsField l.page 52 1 3 old new → ChangesOldest with_purge_begun l old new
begun_changes old new l log state sets = record {
  after = begun_purge l;
  stands = begun old new l log state sets;
  shows = begun_shows l state;
  same_page = refl;
  state = not_active;
  number = refl;
  keeps = writes_keep l (span l.page 52 1 ∷ []) old new log ((inr (inr (lit≤ tt)), tt), tt) (first_on old l.page l.parts log.parts, tt) sets.outside;
}
  where
    not_active : purging ≢ active
    not_active = λ e. cc

-- over told pages, a committed log's purge begins when its state is set to purging
pub begun_told : (t0 t1 : Option Pages) (pages : Pages) (l : Log) (log : ℕ) → t0 ≡ Some pages → l.page ≡ log → IsLog pages l → l.state ≡ committed → Told (SetsField log 52 1 3) t0 t1
    → Becomes t1 (ChangesOldest with_purge_begun l pages)
begun_told t0 t1 pages l log is same stands state told =
    let b = told_step (SetsField log 52 1 3) t0 t1 pages is told in
    (b.0, b.1, begun_changes pages b.0 l stands state (subst (λ (n : ℕ). SetsField n 52 1 3 pages b.0) (sym same) b.2))

-- ---- the first of the committed logs

-- where the list of logs has a first node, that node's page is the oldest log's
pub oldest_some : (logs : List Log) (a : Address) → Some a ≡ first_of (log_nodes logs) → Some a.page ≡ oldest_page logs
oldest_some [] a e = absurd (not_some a (sym e))
oldest_some (l ∷ more) a e = ap (option_map (λ (x : Address). x.page)) e

pub oldest_none : (logs : List Log) → None ≡ first_of (log_nodes logs) → None ≡ oldest_page logs
oldest_none [] e = refl
oldest_none (l ∷ more) e = absurd (not_some (log_node l.page) e)
