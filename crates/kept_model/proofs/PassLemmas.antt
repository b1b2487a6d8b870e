-- The event of a store that passes a record is one.
use Rattle.std.proofs.Common.{◌≡◌, ◌≢◌, ◌⊎◌, inl, inr, ℕ, suc, Bool, true, false, true≢false, List, [], ◌∷◌, ◌++◌, map, Option, Some, None, refl, sym, ap, ap₂, subst, ◌∙◌, arith}
use Rattle.std.proofs.lemmas.Bool.{cases_eq}
use Rattle.page_model.specs.Pages.{Address}
use Rattle.store_data.specs.Store.{RowState, absent, live, deleted, Row, Lob, Body, inserted, rebuilt, versioned, patched, removed, Record, Log, Store}
use Rattle.store_model.specs.Lobs.{parts}
use Rattle.store_model.specs.Runs.{lobs_laid, old_runs}
use Rattle.store_model.specs.History.{Change, Past, shown, content, history, history_on, history_behind, changes, row_of, row_before, absent_row}
use Rattle.store_data.specs.Logs.{passed}
use Rattle.store_model.specs.Steps.{last_in, on_lobs}
use Rattle.store_model.specs.Undo.{on_oldest, cleared, is_newest, swept, record_passed}
use Rattle.store_model.specs.Behind.{SameParts}
use Rattle.store_model.specs.Purging.{AllTo}
use Rattle.store_model.specs.Well.{IsWell, IsStep, IsChain, IsNew, AreNamedOnce}
use Rattle.store_model.specs.Consistent.{IsConsistent}
use Rattle.store_model.proofs.LogLemmas.{change}
use Rattle.store_model.proofs.HistoryLemmas.{history-on, content-same, same-laid}
use Rattle.store_model.proofs.PurgeLemmas.{swept_lobs, swept_changes, swept_row, pass_others}
use Rattle.store_model.proofs.WellBackLemmas.{passed_all, swept_well}
use Rattle.store_model.proofs.ConsistentLemmas.{pass_consistent}
use Rattle.store_model.proofs.GivesLemmas.{pass_chain, own_same, others_same, before_elsewhere}
use Rattle.store_model.specs.Keeps.{Frees}
use Rattle.read_model.proofs.ReadsLemmas.{reads_passed}
use Rattle.kept_model.specs.Rows.{SameTrx, SameTo}
use Rattle.kept_model.specs.Views.{shown_by, parts_shown}
use Rattle.kept_model.specs.Passes.{Passes}
use Rattle.kept_model.proofs.KindLemmas.{shown_same}
use Rattle.kept_model.proofs.ReadKept.{entries_distinct}
use Rattle.kept_model.specs.Fetches.{KeepsNewest}

-- ---- rows without the oldest

pub record IsSplit (later : List Record) (lobs : List Lob) (row : Row) (cs : List Change) (c : Change) : Type 0 where
  pub newer : List Past
  pub own : Past
  pub before : Past
  pub all : history_behind later lobs row (cs ++ c ∷ []) ≡ newer ++ (own ∷ before ∷ [])
  pub front : history_behind later lobs row cs ≡ newer ++ (own ∷ [])
  pub trx : IsChain row (cs ++ c ∷ []) → own.trx ≡ c.trx
  pub some : newer ≢ [] → cs ≢ []

-- one oldest change more is one oldest row more; in a chain the row above it is of that change
pub split : (later : List Record) (lobs : List Lob) (row : Row) (cs : List Change) (c : Change) → IsSplit later lobs row cs c
split later lobs row [] c = record { newer = []; own = _; before = _; all = refl; front = refl; trx = λ chain. chain.0.trx; some = λ no e. no refl }
split later lobs row (d ∷ cs) c =
    let rest = split (later ++ d.undo ∷ []) lobs d.undo.before cs c in
    record {
      newer = record { trx = row.trx; length = row.lob.length; bytes = Rattle.store_model.specs.History.content_behind later lobs row } ∷ rest.newer;
      own = rest.own;
      before = rest.before;
      all = ap (λ (ps : List Past). record { trx = row.trx; length = row.lob.length; bytes = Rattle.store_model.specs.History.content_behind later lobs row } ∷ ps) rest.all;
      front = ap (λ (ps : List Past). record { trx = row.trx; length = row.lob.length; bytes = Rattle.store_model.specs.History.content_behind later lobs row } ∷ ps) rest.front;
      trx = λ chain. rest.trx chain.1;
      some = λ no e. cc e;
    }

-- other LOBs leave the transactions of a history's rows
pub same_trx : (old new : List Lob) (row : Row) (cs : List Change) → SameTrx (history_on old row cs) (history_on new row cs)
same_trx old new row [] = ((refl, refl), tt)
same_trx old new row (c ∷ cs) = ((refl, refl), same_trx (lobs_laid (old_runs c.undo.body) old) (lobs_laid (old_runs c.undo.body) new) c.undo.before cs)

to_laid : (trx : ℕ) (rs : List Rattle.store_data.specs.Store.Run) (old new : List Lob) (row : Row) (cs : List Change) → AllTo trx (SameParts old new) row cs → AllTo trx (SameParts (lobs_laid rs old) (lobs_laid rs new)) row cs
to_laid trx rs old new row [] all = same-laid rs old new row all
to_laid trx rs old new row (c ∷ cs) all = (same-laid rs old new row all.0, elim all.1 [ inl e ↦ inl e | inr rest ↦ inr (to_laid trx rs old new c.undo.before cs rest) ])

-- LOBs with the same parts at the rows down to a transaction show the same there
pub same_to : (trx : ℕ) (old new : List Lob) (row : Row) (cs : List Change) → AllTo trx (SameParts old new) row cs → SameTo trx (history_on old row cs) (history_on new row cs)
same_to trx old new row [] all = (sym (content-same old new row all), λ other. tt)
same_to trx old new row (c ∷ cs) all = (
  sym (content-same old new row all.0),
  λ other. elim all.1 [
    | inl e ↦ absurd (other e)
    | inr rest ↦ same_to trx (lobs_laid (old_runs c.undo.body) old) (lobs_laid (old_runs c.undo.body) new) c.undo.before cs (to_laid trx (old_runs c.undo.body) old new c.undo.before cs rest)
  ],
)

-- what holds of the rows down to a transaction holds of the newest
pub first_of : (trx : ℕ) (P : Row → Type 0) (row : Row) (cs : List Change) → AllTo trx P row cs → P row
first_of trx P row [] all = all
first_of trx P row (c ∷ cs) all = all.0

freed_live : (b : Body) (r before : Row) → Rattle.store_model.specs.Well.IsKind b r before → Frees b → before.state ≡ live
freed_live (inserted page) r before kind frees = absurd frees
freed_live (rebuilt page) r before kind frees = kind.2
freed_live (versioned pieces touched) r before kind frees = absurd frees
freed_live (patched old) r before kind frees = absurd frees
freed_live removed r before kind frees = kind.1

-- the oldest change of a chain made a row as its kind does, from the row before
pub last_kind : (row : Row) (cs : List Change) (c : Change) → IsChain row (cs ++ c ∷ []) → (r : Row) × Rattle.store_model.specs.Well.IsKind c.undo.body r c.undo.before
last_kind row [] c chain = (row, chain.0.kind)
last_kind row (d ∷ cs) c chain = last_kind d.undo.before cs c chain.1

module _ (a : Address) (u : Record) (store : Store) (l : Log) (ls : List Log) (all : IsConsistent store) (first : store.committed ≡ l ∷ ls) (oldest : last_in l.records ≡ (a, u) ∷ []) where
  abbrev new : Store
  new = record_passed a l.trx u store

  abbrev mid : Store
  mid = on_lobs (cleared u.body u.before) store

  abbrev cs : List Change
  cs = changes (on_oldest passed store) u.doc

  parted : IsSplit [] store.lobs (row_before store u.doc) cs (change l.trx a u)
  parted = split [] store.lobs (row_before store u.doc) cs (change l.trx a u)

  chain : IsChain (row_before store u.doc) (cs ++ change l.trx a u ∷ [])
  chain = pass_chain a u store l ls all.well first oldest

  abbrev left_rows : List Past
  left_rows = history_behind [] (cleared u.body u.before store.lobs) (row_before store u.doc) cs

  left_on : left_rows ≡ history_on (cleared u.body u.before store.lobs) (row_before store u.doc) cs
  left_on = history-on (cleared u.body u.before store.lobs) (row_before store u.doc) cs

  front_on : parted.newer ++ (parted.own ∷ []) ≡ history_on store.lobs (row_before store u.doc) cs
  front_on = sym parted.front ∙ history-on store.lobs (row_before store u.doc) cs

  same_parts : AllTo l.trx (SameParts store.lobs (cleared u.body u.before store.lobs)) (row_before store u.doc) cs
  same_parts = own_same a u store l ls all.well first oldest

  -- the rows behind the event, by its row
  rows_are : (row : Row) → row_before new u.doc ≡ row → history new u.doc ≡ history_behind [] (cleared u.body u.before store.lobs) row cs
  rows_are row is =
      ap (λ (lobs : List Lob). history_behind [] lobs (row_before new u.doc) (changes new u.doc)) (swept_lobs u.body a l.trx u.doc mid)
      ∙ ap₂ (history_behind [] (cleared u.body u.before store.lobs)) is (swept_changes u.body a l.trx u.doc u.doc mid)

  swept_so : is_newest a l.trx (row_of store u.doc) ≡ true → u.body ≡ removed → ((row_before store u.doc).state ≡ deleted) × (cs ≡ [])
  swept_so newest is_removed = swept_well a l.trx u.doc u store cs chain (subst AreNamedOnce (passed_all a u store l ls first oldest) (all.well.places u.doc)) newest is_removed

  pub record_is_passed : Passes l ls u store new
  record_is_passed = record {
    newer = parted.newer;
    own = parted.own;
    before = parted.before;
    was = ap (history_behind [] store.lobs (row_before store u.doc)) (passed_all a u store l ls first oldest) ∙ parted.all;
    mine = parted.trx chain;
    middle = left_rows;
    same = subst (λ (ps : List Past). SameTrx ps left_rows) (sym front_on) (subst (SameTrx (history_on store.lobs (row_before store u.doc) cs)) (sym left_on)
        (same_trx store.lobs (cleared u.body u.before store.lobs) (row_before store u.doc) cs));
    bytes = subst (λ (ps : List Past). SameTo l.trx ps left_rows) (sym front_on) (subst (SameTo l.trx (history_on store.lobs (row_before store u.doc) cs)) (sym left_on)
        (same_to l.trx store.lobs (cleared u.body u.before store.lobs) (row_before store u.doc) cs same_parts));
    now = elim (swept_row u.body a l.trx u.doc u.doc mid) [
      | inl kept ↦ inl (rows_are (row_before store u.doc) kept)
      | inr gone ↦
          let so = swept_so gone.2 gone.3 in
          inr (
            record { trx = (row_before store u.doc).trx; length = (row_before store u.doc).lob.length; bytes = Rattle.store_model.specs.History.content_behind [] (cleared u.body u.before store.lobs) (row_before store u.doc) },
            ap (history_behind [] (cleared u.body u.before store.lobs) (row_before store u.doc)) so.1,
            ap (λ (s : RowState). shown s (map (Rattle.store_model.specs.Runs.put_back []) (parts (cleared u.body u.before store.lobs) (row_before store u.doc).lob))) so.0,
            rows_are absent_row gone.0 ∙ ap (history_behind [] (cleared u.body u.before store.lobs) absent_row) so.1,
          )
    ];
    others = λ d other. pass_others a u store l ls d first oldest other (others_same a u store l ls all.well first oldest d (λ e. other (sym e)));
    consistent = pass_consistent a u store l ls all first oldest;
    next = next_same u.body;
    commits = commits_same u.body;
    purged = purged_same u.body;
    active = active_same u.body;
    log = passed l;
    committed = ap (Rattle.store_model.specs.Undo.on_first passed) (committed_same u.body ∙ first);
    log_trx = refl;
    log_number = refl;
    log_state = refl;
    reads = λ sees d shown_parts f known zero h.
        (reads_passed a u store l ls (record { doc = d; sees = sees; shown = shown_parts; flight = f } ∷ []) first oldest (all.well.chains u.doc)
        (entries_distinct (changes store u.doc) (all.well.places u.doc))
        (λ q other frees. before_elsewhere a u store l ls all.well first oldest q (λ e. other (sym e)) (freed_live u.body (last_kind (row_before store u.doc) cs (change l.trx a u) chain).0 u.before (last_kind (row_before store u.doc) cs (change l.trx a u) chain).1 frees))
        ((known, zero), tt) (h, tt)).0;
    shows = by_doc;
  }
    where
      by_bool : (P : Store → Type 0) (b : Bool) → P mid → P (Rattle.store_model.specs.Steps.without_row u.doc mid) → P (Rattle.std.proofs.Common.cond b (Rattle.store_model.specs.Steps.without_row u.doc mid) mid)
      by_bool P true h g = g
      by_bool P false h g = h

      next_same : (b : Body) → (swept b a l.trx u.doc mid).next_trx ≡ store.next_trx
      next_same (inserted page) = refl
      next_same (rebuilt page) = refl
      next_same (versioned pieces touched) = refl
      next_same (patched old) = refl
      next_same removed = by_bool (λ st. st.next_trx ≡ store.next_trx) (is_newest a l.trx (row_of mid u.doc)) refl refl

      commits_same : (b : Body) → (swept b a l.trx u.doc mid).commits ≡ store.commits
      commits_same (inserted page) = refl
      commits_same (rebuilt page) = refl
      commits_same (versioned pieces touched) = refl
      commits_same (patched old) = refl
      commits_same removed = by_bool (λ st. st.commits ≡ store.commits) (is_newest a l.trx (row_of mid u.doc)) refl refl

      purged_same : (b : Body) → (swept b a l.trx u.doc mid).purged ≡ store.purged
      purged_same (inserted page) = refl
      purged_same (rebuilt page) = refl
      purged_same (versioned pieces touched) = refl
      purged_same (patched old) = refl
      purged_same removed = by_bool (λ st. st.purged ≡ store.purged) (is_newest a l.trx (row_of mid u.doc)) refl refl

      active_same : (b : Body) → (swept b a l.trx u.doc mid).active ≡ store.active
      active_same (inserted page) = refl
      active_same (rebuilt page) = refl
      active_same (versioned pieces touched) = refl
      active_same (patched old) = refl
      active_same removed = by_bool (λ st. st.active ≡ store.active) (is_newest a l.trx (row_of mid u.doc)) refl refl

      committed_same : (b : Body) → (swept b a l.trx u.doc mid).committed ≡ store.committed
      committed_same (inserted page) = refl
      committed_same (rebuilt page) = refl
      committed_same (versioned pieces touched) = refl
      committed_same (patched old) = refl
      committed_same removed = by_bool (λ st. st.committed ≡ store.committed) (is_newest a l.trx (row_of mid u.doc)) refl refl

      shows_same : (d : ℕ) → row_before new d ≡ row_before store d → SameParts store.lobs (cleared u.body u.before store.lobs) (row_before store d) → KeepsNewest d store new
      shows_same d is same = record {
        parts = ap₂ parts_shown (swept_lobs u.body a l.trx u.doc mid) is ∙ shown_same store.lobs (cleared u.body u.before store.lobs) (row_before store d) same;
        row = λ is_live. is;
      }

      -- a deleted row that goes showed nothing
      none_shown : row_before new u.doc ≡ absent_row → (row_before store u.doc).state ≡ deleted → KeepsNewest u.doc store new
      none_shown gone was = record {
        parts = ap (parts_shown new.lobs) gone ∙ sym (ap (λ (s : RowState). shown_by s (parts store.lobs (row_before store u.doc).lob)) was);
        row = λ is_live. absurd (cc (sym was ∙ is_live));
      }

      by_doc : (d : ℕ) → KeepsNewest d store new
      by_doc d = elim (cases_eq d u.doc) [
        | inl here ↦ subst (λ (q : ℕ). KeepsNewest q store new) (sym here)
            (elim (swept_row u.body a l.trx u.doc u.doc mid) [
              | inl kept ↦ shows_same u.doc kept (first_of l.trx (SameParts store.lobs (cleared u.body u.before store.lobs)) (row_before store u.doc) cs same_parts)
              | inr gone ↦ none_shown gone.0 (swept_so gone.2 gone.3).0
            ])
        | inr other ↦ elim (swept_row u.body a l.trx u.doc d mid) [
          | inl kept ↦ shows_same d kept (others_same a u store l ls all.well first oldest d (λ e. other (sym e))).0
          | inr gone ↦ absurd (other gone.1)
        ]
      ]
