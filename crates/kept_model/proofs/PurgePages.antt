-- The events of purge keep the versions held.
use Rattle.std.proofs.Common.{◌≡◌, ◌≢◌, inl, inr, ℕ, suc, Bool, true, false, true≢false, nat_eq, nat_lt, List, [], ◌∷◌, ◌++◌, Some, refl, sym, ap, ap₂, subst, ◌∙◌, arith, if◌then◌else◌}
use Rattle.std.proofs.lemmas.Bool.{cases_eq}
use Rattle.journal_model.specs.Journal.{Script, Opening}
use Rattle.journal_model.specs.History.{Owner, session, commit, is_among, purged_to, history}
use Rattle.history_model.specs.Laws.{IsRun}
use Rattle.history_model.specs.Sound.{OfOwners, IsAfter, IsFirst, IsSound}
use Rattle.history_model.proofs.OrderLemmas.{after_of}
use Rattle.history_model.proofs.SoundLemmas.{is_sound}
use Rattle.store_data.specs.Store.{Lob, Record, Log, Store, purging}
use Rattle.store_model.specs.History.{Change, changes, row_before, stands}
use Rattle.store_model.specs.Steps.{on_lobs}
use Rattle.store_model.specs.Undo.{on_first}
use Rattle.store_model.specs.Owned.{owned_if}
use Rattle.store_model.proofs.PurgeLemmas.{changes-first, log_changes_kept}
use Rattle.kept_model.specs.Engine.{Engine}
use Rattle.kept_model.specs.Names.{trx_numbered, names_of, is_begun, is_purging, AreNumbered}
use Rattle.kept_model.specs.Stored.{Front, front}
use Rattle.kept_model.specs.Held.{change_lobs, held_lobs, rest, front_kinds, IsHeldBy, IsHeld, lob_list}
use Rattle.kept_model.specs.Pages.{KeepsLobs, DropsLobs, PassesLobs}
use Rattle.kept_model.specs.Passes.{Passes, pass_event}
use Rattle.kept_model.specs.Drops.{drop_event}
use Rattle.kept_model.specs.Purges.{begun_event, purged_event}
use Rattle.kept_model.specs.Kept.{Kept, KeptPages}
use Rattle.kept_model.proofs.FrameLemmas.{under_way_same}
use Rattle.kept_model.proofs.SessionLemmas.{self_eq}
use Rattle.kept_model.proofs.CommitRows.{of_parts}
use Rattle.kept_model.proofs.PurgedRows as part
use Rattle.kept_model.proofs.PurgedRows.{both_owners, after_commit, not_begun_first}
use Rattle.kept_model.proofs.HeldSteps.{held_rests}
use Rattle.kept_model.proofs.HeldFrame.{theirs_so, held_over, held_left}
use Rattle.kept_model.proofs.LowLemmas.{low_of}
use Rattle.kept_model.proofs.HeldPurges.{IsHalved, halve}
use Rattle.kept_model.proofs.HeldPurged.{oldest_lobs, drop_held, pass_held, begin_held, end_held}

-- ---- it begins

lobs_so : (d : ℕ) (old new : Store) → new.lobs ≡ old.lobs → row_before new d ≡ row_before old d → changes new d ≡ changes old d → lob_list new d ≡ lob_list old d
lobs_so d old new lobs row cs =
    ap₂ (λ (ls : List Lob) (ps : List ℕ). held_lobs ls ps) lobs
    (ap₂ (λ (r : Rattle.store_data.specs.Store.Row) (xs : List Change). owned_if r.state r.lob.page ++ change_lobs xs) row cs)

pub begun_keeps_pages : (o : Opening) (script : Script) (e : Engine) → KeptPages o script e → (l : Log) (ls : List Log) → e.store.committed ≡ l ∷ ls → is_begun l.state ≡ false → KeptPages o script (begun_event e)
begun_keeps_pages o script e pages l ls first not_begun = record { held = held_now }
  where
    committed_is : (begun_event e).store.committed ≡ record l { state = purging } ∷ ls
    committed_is = ap (on_first (λ (m : Log). record m { state = purging })) first

    numbers_same : (c : ℕ) → trx_numbered (begun_event e).store.committed c ≡ trx_numbered e.store.committed c
    numbers_same c = ap (λ (ms : List Log). trx_numbered ms c) committed_is ∙ sym (ap (λ (ms : List Log). trx_numbered ms c) first)

    names_same : (w : Owner) (x : ℕ) → names_of e w ≡ Some x → names_of (begun_event e) w ≡ Some x
    names_same (session t) x h = h
    names_same (commit c) x h = numbers_same c ∙ h

    changes_same : (d : ℕ) → changes (begun_event e).store d ≡ changes e.store d
    changes_same d = ap (λ (cs : List Change). Rattle.store_model.specs.History.active_changes d e.store.active ++ cs)
        (changes-first d (λ (m : Log). record m { state = purging }) e.store.committed (λ m. refl) (λ m. refl))

    held_now : (d : ℕ) → IsHeld o script (begun_event e) d
    held_now d = held_over script e.journal e.journal (history o script e.journal d) (history o script e.journal d) (front e d) (front e d) (rest e d) (rest e d)
        true (is_purging (begun_event e).store.committed) (suc e.store.purged) (suc e.store.purged) (names_of e) (names_of (begun_event e))
        (changes e.store d) (changes (begun_event e).store d) (lob_list e.store d) (lob_list (begun_event e).store d)
        refl refl refl (ap is_purging committed_is) refl (changes_same d) (lobs_so d e.store (begun_event e).store refl refl (changes_same d)) (λ ms h. h)
        (λ ms. theirs_so (names_of e) (names_of (begun_event e)) ms (changes e.store d) names_same)
        (begin_held script e.journal e.journal (history o script e.journal d) (front e d) (rest e d) (suc e.store.purged) (names_of e) (names_of e) (changes e.store d) (lob_list e.store d)
        (subst (λ (b : Bool). IsHeldBy script e.journal (history o script e.journal d) (front e d) (rest e d) b (suc e.store.purged) (names_of e) (changes e.store d) (lob_list e.store d))
        (ap is_purging first ∙ not_begun) (pages.held d)))

-- ---- the store changes: the oldest change of one document loses more, or is purged

module _ (o : Opening) (script : Script) (run : IsRun o script) (opened : IsFirst o) (e : Engine) (kept : Kept o script e) (pages : KeptPages o script e) (l : Log) (ls : List Log)
    (first : e.store.committed ≡ l ∷ ls) (begun_is : is_begun l.state ≡ true) (next : Store)
    (numbers : (c : ℕ) → trx_numbered next.committed c ≡ trx_numbered e.store.committed c) (purging_now : is_purging next.committed ≡ is_purging e.store.committed) (purged : next.purged ≡ e.store.purged) where
  abbrev n : ℕ
  n = suc e.store.purged

  abbrev new : Engine
  new = record e { store = next }

  number_is : l.number ≡ n
  number_is = (subst (AreNumbered e.store.commits e.store.purged) first kept.logs.numbered).0

  named_as : names_of e (commit n) ≡ Some l.trx
  named_as = ap (λ (ms : List Log). trx_numbered ms n) first ∙ ap (λ (b : Bool). if b then Some l.trx else trx_numbered ls n) (ap (λ (m : ℕ). nat_eq m n) number_is ∙ self_eq n)

  owner_is : (x : ℕ) → x ≡ l.trx → (w : Owner) → names_of e w ≡ Some x → w ≡ commit n
  owner_is x same (session t) h = absurd (true≢false (sym (kept.logs.own t l.trx (h ∙ ap (λ (k : ℕ). Some k) same)).0 ∙ (kept.logs.commits n l.trx named_as).0))
  owner_is x same (commit c) h = ap commit (one c n (λ k. sym ((kept.logs.commits c l.trx (h ∙ ap (λ (m : ℕ). Some m) same)).1 k) ∙ (kept.logs.commits n l.trx named_as).1 k))
    where
      equal : (a b : ℕ) → nat_lt a b ≡ false → nat_lt b a ≡ false → a ≡ b
      equal a b up down = grind (arith, up, down)

      one : (a b : ℕ) → ((k : ℕ) → nat_lt k a ≡ nat_lt k b) → a ≡ b
      one a b same =
          let at_a : nat_lt a a ≡ nat_lt a b = same a in
          let at_b : nat_lt b a ≡ nat_lt b b = same b in
          let not_a : nat_lt a a ≡ false = grind arith in
          let not_b : nat_lt b b ≡ false = grind arith in
          equal a b (sym at_a ∙ not_a) (at_b ∙ not_b)

  names_same : (w : Owner) (x : ℕ) → names_of e w ≡ Some x → names_of new w ≡ Some x
  names_same (session t) x h = h
  names_same (commit c) x h = numbers c ∙ h

  abbrev By : ℕ → List Change → List Rattle.journal_model.specs.Held.HeldLob → Type 0
  By d cs lobs = IsHeldBy script e.journal (history o script e.journal d) (front e d) (rest e d) true n (names_of e) cs lobs

  was : (d : ℕ) → By d (changes e.store d) (lob_list e.store d)
  was d = subst (λ (b : Bool). IsHeldBy script e.journal (history o script e.journal d) (front e d) (rest e d) b n (names_of e) (changes e.store d) (lob_list e.store d)) (ap is_purging first ∙ begun_is) (pages.held d)

  now : (d : ℕ) → By d (changes next d) (lob_list next d) → IsHeld o script new d
  now d k = held_over script e.journal e.journal (history o script e.journal d) (history o script e.journal d) (front e d) (front e d) (rest e d) (rest e d)
      true (is_purging next.committed) n (suc next.purged) (names_of e) (names_of new) (changes next d) (changes next d) (lob_list next d) (lob_list next d)
      refl refl refl (purging_now ∙ ap is_purging first ∙ begun_is) (ap suc purged) refl refl (λ ms h. h) (λ ms. theirs_so (names_of e) (names_of new) ms (changes next d) names_same) k

  other : (d : ℕ) → KeepsLobs e.store next d → IsHeld o script new d
  other d keeps = held_left o script e new d purging_now purged names_same (record { history = refl; front = refl; rest = refl; ahead = λ ms h. h; changes = keeps.changes; lobs = keeps.lobs }) (pages.held d)

  sound : (d : ℕ) → IsSound (history o script e.journal d)
  sound d = is_sound o script run opened e.journal d kept.calm.legal

  halved : (d : ℕ) (newer : List Change) (c : Change) → changes e.store d ≡ newer ++ c ∷ [] → c.trx ≡ l.trx → IsHalved script e.journal (history o script e.journal d) (front e d) (rest e d) n (names_of e) newer c (lob_list e.store d)
  halved d newer c split mine = halve script e.journal (history o script e.journal d) (front e d) (rest e d) n (names_of e) (changes e.store d) newer c (lob_list e.store d) split (owner_is c.trx mine) (was d)

  pub dropped_pages : (d : ℕ) → DropsLobs l d e.store next → KeptPages o script new
  dropped_pages d drops = record {
    held = λ q. elim (cases_eq q d) [
      | inl here ↦ subst (IsHeld o script new) (sym here) own
      | inr apart ↦ other q (drops.others q apart)
    ];
  }
    where
      own : IsHeld o script new d
      own =
          let k = halved d drops.newer drops.oldest drops.was drops.mine in
          let low = low_of o script e.journal d in
          let g = drops.step (front_kinds (front e d) k.done (k.ahead ++ k.left)) k.m.kind k.dropped _
          (oldest_lobs script e.journal (history o script e.journal d) (front e d) (rest e d) n (names_of e) drops.newer drops.oldest (lob_list e.store d) (sound d) low k) in
          now d (drop_held script e.journal (history o script e.journal d) (front e d) (rest e d) n (names_of e) drops.newer drops.oldest (lob_list e.store d) (sound d) low k
          (lob_list next d) (changes next d) (drops.changes ∙ drops.was) g.0 g.1)

  pub passed_pages : (d : ℕ) → PassesLobs l d e.store next → KeptPages o script new
  passed_pages d passes = record {
    held = λ q. elim (cases_eq q d) [
      | inl here ↦ subst (IsHeld o script new) (sym here) own
      | inr apart ↦ other q (passes.others q apart)
    ];
  }
    where
      own : IsHeld o script new d
      own =
          let k = halved d passes.newer passes.oldest passes.was passes.mine in
          let low = low_of o script e.journal d in
          let g = passes.step (front_kinds (front e d) k.done (k.ahead ++ k.left)) k.m.kind k.dropped _
          (oldest_lobs script e.journal (history o script e.journal d) (front e d) (rest e d) n (names_of e) passes.newer passes.oldest (lob_list e.store d) (sound d) low k) in
          now d (subst (λ (cs : List Change). By d cs (lob_list next d)) (sym passes.changes)
          (pass_held script e.journal (history o script e.journal d) (front e d) (rest e d) n (names_of e) passes.newer passes.oldest (lob_list e.store d) (sound d) low k (lob_list next d) g))

pub drop_keeps_pages : (o : Opening) (script : Script) → IsRun o script → IsFirst o → (e : Engine) → Kept o script e → KeptPages o script e → (l : Log) (ls : List Log) (d : ℕ) (f : List Lob → List Lob)
    → e.store.committed ≡ l ∷ ls → is_begun l.state ≡ true → DropsLobs l d e.store (on_lobs f e.store) → KeptPages o script (drop_event f e)
drop_keeps_pages o script run opened e kept pages l ls d f first begun_is drops =
    dropped_pages o script run opened e kept pages l ls first begun_is (on_lobs f e.store) (λ c. refl) refl refl d drops

pub pass_keeps_pages : (o : Opening) (script : Script) → IsRun o script → IsFirst o → (e : Engine) → Kept o script e → KeptPages o script e → (l : Log) (ls : List Log) (u : Record) (next : Store)
    → e.store.committed ≡ l ∷ ls → is_begun l.state ≡ true → Passes l ls u e.store next → PassesLobs l u.doc e.store next → KeptPages o script (pass_event next e)
pass_keeps_pages o script run opened e kept pages l ls u next first begun_is passes lobs =
    passed_pages o script run opened e kept pages l ls first begun_is next
    (λ c. ap (λ (ms : List Log). trx_numbered ms c) passes.committed
    ∙ ap₂ (λ (m t : ℕ). if nat_eq m c then Some t else trx_numbered ls c) passes.log_number passes.log_trx ∙ sym (ap (λ (ms : List Log). trx_numbered ms c) first))
    (ap is_purging passes.committed ∙ ap is_begun passes.log_state ∙ sym (ap is_purging first)) passes.purged u.doc lobs

-- ---- it ends

module _ (o : Opening) (script : Script) (run : IsRun o script) (e : Engine) (kept : Kept o script e) (pages : KeptPages o script e) (l : Log) (ls : List Log)
    (first : e.store.committed ≡ l ∷ ls) (begun_is : is_begun l.state ≡ true) (empty : l.records ≡ []) where
  abbrev quit : Engine
  quit = purged_event e

  end_at : (d : ℕ) → IsHeld o script quit d
  end_at d =
      let n = suc e.store.purged in
      let k : IsHeldBy script e.journal (history o script e.journal d) (front e d) (rest e d) true n (names_of e) (changes e.store d) (lob_list e.store d) =
      subst (λ (b : Bool). IsHeldBy script e.journal (history o script e.journal d) (front e d) (rest e d) b n (names_of e) (changes e.store d) (lob_list e.store d))
      (part.purging_was o script run e kept l ls first begun_is empty) (pages.held d) in
      let after : OfOwners (IsAfter e.store.purged) (history o script e.journal d).changes =
      subst (λ (m : ℕ). OfOwners (IsAfter m) (history o script e.journal d).changes) (sym kept.counts.purged) (after_of o script run e.journal d kept.calm.legal) in
      let left_after = (of_parts (IsAfter e.store.purged) k.left (k.half ++ k.passed) (of_parts (IsAfter e.store.purged) k.gone (k.left ++ (k.half ++ k.passed)) (subst (OfOwners (IsAfter e.store.purged)) k.is after)).1).0 in
      let same : changes quit.store d ≡ changes e.store d = log_changes_kept d e.store l ls first empty in
      held_over script quit.journal quit.journal (purged_to n (history o script e.journal d)) (purged_to n (history o script e.journal d)) (front e d) (front e d) (rest e d) (rest e d)
      false (is_purging quit.store.committed) (suc n) (suc n) (names_of quit) (names_of quit) (changes e.store d) (changes quit.store d) (lob_list e.store d) (lob_list quit.store d)
      refl refl refl (ap is_purging (part.rest_is o script run e kept l ls first begun_is empty) ∙ not_begun_first ls (part.not_begun o script run e kept l ls first begun_is empty)) refl
      same (lobs_so d e.store quit.store refl refl same) (λ ms h. h) (λ ms h. h)
      (end_held script e.journal quit.journal (history o script e.journal d) (front e d) (rest e d) n (names_of e) (names_of quit) (changes e.store d) (lob_list e.store d)
      l.trx (part.named_as o script run e kept l ls first begun_is empty) (part.none_left o script run e kept l ls first begun_is empty d)
      (λ s. under_way_same script s e.journal quit.journal (part.says o script run e kept l ls first begun_is empty s)) (part.names_same o script run e kept l ls first begun_is empty) k
      (λ off. both_owners (IsAfter e.store.purged) (λ w. w ≢ commit n) (λ w. is_among n w ≡ false) k.left (after_commit e.store.purged) left_after off))

  pub purge_keeps_pages : KeptPages o script quit
  purge_keeps_pages = record { held = end_at }

-- ---- what is held, where nothing is half done

pub versions_are_held : (o : Opening) (script : Script) → IsRun o script → IsFirst o → (e : Engine) → Kept o script e → KeptPages o script e → (d : ℕ) → front e d ≡ Rattle.kept_model.specs.Stored.whole
    → is_purging e.store.committed ≡ false → lob_list e.store d ≡ Rattle.journal_model.specs.Versions.held o script e.journal d
versions_are_held o script run opened e kept pages d at_rest none =
    held_rests script e.journal (history o script e.journal d) (rest e d) (suc e.store.purged) (names_of e) (changes e.store d) (lob_list e.store d)
    (subst (λ (b : Bool). IsHeldBy script e.journal (history o script e.journal d) Rattle.kept_model.specs.Stored.whole (rest e d) b (suc e.store.purged) (names_of e) (changes e.store d) (lob_list e.store d)) none
    (subst (λ (f : Front). IsHeldBy script e.journal (history o script e.journal d) f (rest e d) (is_purging e.store.committed) (suc e.store.purged) (names_of e) (changes e.store d) (lob_list e.store d)) at_rest (pages.held d)))
    ∙ sym (Rattle.history_model.proofs.HeldLemmas.held_is o script run opened e.journal d kept.calm.legal)
