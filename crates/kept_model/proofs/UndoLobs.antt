-- What the last event of an undone record does to the LOBs of documents, by its kind.
use Rattle.std.proofs.Common.{◌≡◌, ◌≢◌, ℕ, suc, ◌+◌, Bool, true, false, true≢false, List, [], ◌∷◌, ◌++◌, map, length, Some, refl, sym, ap, ap₂, subst, ◌∙◌, arith, if◌then◌else◌}
use Rattle.page_model.specs.Pages.{Address}
use Rattle.journal_model.specs.Held.{Kind, inserted, rebuilt, versioned, patched, removed, HeldLob, at_pieces, at_first, new_lob, raised, add}
use Rattle.store_data.specs.Store.{RowState, absent, live, deleted, Reference, Row, Version, Piece, Lob, Run, Body, Record, Store}
use Rattle.store_data.specs.Store as bodies
use Rattle.store_model.specs.Lobs.{lob_of}
use Rattle.store_model.specs.Runs.{lobs_laid}
use Rattle.store_model.specs.History.{Change, changes, row_before}
use Rattle.store_model.specs.Steps.{on_lob, at_version, without_lob, with_row, without_row}
use Rattle.store_model.specs.Undo.{is_gone, restored, unmade, without_newest, undo_ended}
use Rattle.store_model.specs.Keeps.{IsVersioned, Makes}
use Rattle.store_model.specs.Moves.{IsNewest}
use Rattle.store_model.specs.Owned.{owned_if, owned_by, IsNotAmong}
use Rattle.store_model.specs.Well.{IsKind}
use Rattle.store_model.specs.Versions.{AreOlderUpTo, AreUpTo, IsLowered}
use Rattle.store_model.specs.Consistent.{IsConsistent}
use Rattle.store_model.proofs.RowLemmas.{row-with_this, row-with_other, row-without_this, row-without_other}
use Rattle.store_model.proofs.LogLemmas.{change}
use Rattle.store_model.proofs.UndoLemmas.{changes-popped, changes-popped_other}
use Rattle.store_model.proofs.LobLemmas.{lob-on_other, lob-without_other}
use Rattle.store_model.proofs.GivesLemmas.{newest_chain, made_live, others_elsewhere}
use Rattle.kept_model.specs.Held.{numbers_of, held_lobs, change_lobs, lob_pages, lob_list, part_kind, IsOfKind}
use Rattle.kept_model.specs.Pages.{AllUpTo, AreBelow, KeepsLobs, UndoesLobs}
use Rattle.kept_model.proofs.OwnLemmas.{version_there}
use Rattle.kept_model.proofs.NumberLists.{none_at}
use Rattle.kept_model.proofs.LobLists.{doc_not, row_not, held_same, live_list, first_changes}
use Rattle.kept_model.proofs.PlanLobs.{held_laid}
use Rattle.kept_model.proofs.WorkLobs.{made_kind, versioned_kind, first_is}

-- ---- the row goes back

restored_changes : (d q : ℕ) (before : Row) (store : Store) → changes (restored d before store) q ≡ changes store q
restored_changes d q before store = by_test (is_gone store before.state before)
  where
    by_test : (b : Bool) → changes (if b then without_row d store else with_row d before store) q ≡ changes store q
    by_test true = refl
    by_test false = refl

restored_lobs : (d : ℕ) (before : Row) (store : Store) → (restored d before store).lobs ≡ store.lobs
restored_lobs d before store = by_test (is_gone store before.state before)
  where
    by_test : (b : Bool) → (if b then without_row d store else with_row d before store).lobs ≡ store.lobs
    by_test true = refl
    by_test false = refl

abbrev own_pages : Row → List ℕ
own_pages r = owned_if r.state r.lob.page

gone_pages : (store : Store) (s : RowState) (r : Row) (page : ℕ) → is_gone store s r ≡ true → owned_if s page ≡ []
gone_pages store absent r page h = refl
gone_pages store live r page h = absurd (true≢false (sym h))
gone_pages store deleted r page h = refl

restored_pages : (d : ℕ) (before : Row) (store : Store) → own_pages (row_before (restored d before store) d) ≡ own_pages before
restored_pages d before store = by_test (is_gone store before.state before) refl
  where
    by_test : (b : Bool) → is_gone store before.state before ≡ b → own_pages (row_before (if b then without_row d store else with_row d before store) d) ≡ own_pages before
    by_test true g = ap own_pages (row-without_this d store) ∙ sym (gone_pages store before.state before before.lob.page g)
    by_test false g = ap own_pages (row-with_this d before store)

restored_other : (d q : ℕ) (before : Row) (store : Store) → q ≢ d → row_before (restored d before store) q ≡ row_before store q
restored_other d q before store other = by_test (is_gone store before.state before)
  where
    by_test : (b : Bool) → row_before (if b then without_row d store else with_row d before store) q ≡ row_before store q
    by_test true = row-without_other d q store other
    by_test false = row-with_other d q before store other

-- ---- a record is undone

module _ (trx : ℕ) (place : Address) (u : Record) (store : Store) (all : IsConsistent store) (newest : IsNewest trx place u store) where
  abbrev mid : Store
  mid = without_newest trx u store

  abbrev cs : List Change
  cs = changes mid u.doc

  abbrev row : Row
  row = row_before store u.doc

  abbrev lobs' : List Lob
  lobs' = unmade u.body u.before store.lobs

  was : changes store u.doc ≡ change trx place u ∷ cs
  was = changes-popped trx place u store newest

  kind : IsKind u.body row u.before
  kind = (newest_chain store u.doc (change trx place u) cs all.well was).0.kind

  now_changes : changes (undo_ended trx u store) u.doc ≡ cs
  now_changes = restored_changes u.doc u.doc u.before mid

  now_list : lob_list (undo_ended trx u store) u.doc ≡ held_lobs lobs' (own_pages u.before ++ change_lobs cs)
  now_list = ap₂ (λ (ls : List Lob) (ps : List ℕ). held_lobs ls ps) (restored_lobs u.doc u.before mid)
      (ap₂ (λ (ps : List ℕ) (xs : List Change). ps ++ change_lobs xs) (restored_pages u.doc u.before mid) now_changes)

  old_list : lob_list store u.doc ≡ held_lobs store.lobs (own_pages row ++ (owned_by u.body u.before ++ change_lobs cs))
  old_list = ap (λ (xs : List Change). held_lobs store.lobs (own_pages row ++ change_lobs xs)) was

  others_by : ((q : ℕ) → q ≢ u.doc → held_lobs lobs' (lob_pages store q) ≡ lob_list store q) → (q : ℕ) → q ≢ u.doc → KeepsLobs store (undo_ended trx u store) q
  others_by same q other =
      let c = restored_changes u.doc q u.before mid ∙ changes-popped_other trx place u store q newest other in
      record {
        changes = c;
        lobs = ap₂ (λ (ls : List Lob) (ps : List ℕ). held_lobs ls ps) (restored_lobs u.doc u.before mid)
            (ap₂ (λ (r : Row) (xs : List Change). own_pages r ++ change_lobs xs) (restored_other u.doc q u.before mid other) c) ∙ same q other;
      }

  undoes : ((k : Kind) (done : List ℕ) (xs : List HeldLob) → IsOfKind k u.body → lob_list store u.doc ≡ add (part_kind done k) xs → held_lobs lobs' (own_pages u.before ++ change_lobs cs) ≡ xs)
      → ((q : ℕ) → q ≢ u.doc → held_lobs lobs' (lob_pages store q) ≡ lob_list store q) → UndoesLobs trx u.doc store (undo_ended trx u store)
  undoes step same = record {
    change = change trx place u;
    was = was ∙ ap (λ (xs : List Change). change trx place u ∷ xs) (sym now_changes);
    mine = refl;
    step = λ k done xs of_kind part is. now_list ∙ step k done xs of_kind is;
    others = others_by same;
  }

  -- it made a LOB
  module _ (page : ℕ) (makes : Makes page u.body) (m : Lob) (there : lob_of store.lobs page ≡ Some m) where
    made_row : (row.state ≡ live) × (row.lob.page ≡ page)
    made_row = made_live store u.doc page (change trx place u) cs all.well was makes

    unmade_is : lobs' ≡ without_lob page store.lobs
    unmade_is = by_body u.body makes
      where
        by_body : (b : Body) → Makes page b → unmade b u.before store.lobs ≡ without_lob page store.lobs
        by_body (bodies.inserted q) h = ap (λ (n : ℕ). without_lob n store.lobs) h
        by_body (bodies.rebuilt q) h = ap (λ (n : ℕ). without_lob n store.lobs) h
        by_body (bodies.versioned pieces touched) h = absurd h
        by_body (bodies.patched old) h = absurd h
        by_body bodies.removed h = absurd h

    owns_same : own_pages u.before ≡ owned_by u.body u.before
    owns_same = by_body u.body makes kind
      where
        by_body : (b : Body) → Makes page b → IsKind b row u.before → own_pages u.before ≡ owned_by b u.before
        by_body (bodies.inserted q) h k = Rattle.store_model.proofs.TakesLemmas.owned_unlive u.before k.2
        by_body (bodies.rebuilt q) h k = Rattle.store_model.proofs.TakesLemmas.owned_live u.before k.2
        by_body (bodies.versioned pieces touched) h k = absurd h
        by_body (bodies.patched old) h k = absurd h
        by_body bodies.removed h k = absurd h

    stays : (q : ℕ) → q ≢ page → lob_of lobs' q ≡ lob_of store.lobs q
    stays q other = ap (λ (ls : List Lob). lob_of ls q) unmade_is ∙ lob-without_other q page store.lobs other

    below_same : held_lobs lobs' (own_pages u.before ++ change_lobs cs) ≡ held_lobs store.lobs (change_lobs (changes store u.doc))
    below_same =
        ap (λ (ps : List ℕ). held_lobs lobs' (ps ++ change_lobs cs)) owns_same
        ∙ ap (λ (xs : List Change). held_lobs lobs' (change_lobs xs)) (sym was)
        ∙ held_same page store.lobs lobs' (change_lobs (changes store u.doc)) stays
        (subst (λ (n : ℕ). IsNotAmong n (change_lobs (changes store u.doc))) made_row.1 (row_not row (changes store u.doc) (all.well.chains u.doc) made_row.0))

    tail_of : (x : HeldLob) (xs : List HeldLob) → lob_list store u.doc ≡ x ∷ xs → held_lobs lobs' (own_pages u.before ++ change_lobs cs) ≡ xs
    tail_of x xs is = below_same ∙ cc (sym (live_list store u.doc m made_row.0 (ap (lob_of store.lobs) made_row.1 ∙ there)) ∙ is)

    pub made_undoes : UndoesLobs trx u.doc store (undo_ended trx u store)
    made_undoes = undoes
        (λ k done xs of_kind is. made_kind page u.body k of_kind makes
        (λ n e. tail_of (new_lob (length done)) xs (is ∙ ap (λ (q : Kind). add (part_kind done q) xs) e))
        (λ n e. tail_of (new_lob (length done)) xs (is ∙ ap (λ (q : Kind). add (part_kind done q) xs) e)))
        (λ q other. held_same page store.lobs lobs' (lob_pages store q) stays (doc_not page store q all.well (others_elsewhere store u.doc q page all.well (λ g. other (sym g)) made_row.0 made_row.1)))

  -- it raised a version
  module _ (pieces : ℕ) (touched : List ℕ) (body_is : u.body ≡ bodies.versioned pieces touched) (m : Lob) (there : lob_of store.lobs row.lob.page ≡ Some m) (lowered : IsLowered u.body u.before store.lobs) where
    kind_is : (row.state ≡ live) × (u.before.state ≡ live) × (row.lob ≡ Rattle.store_model.specs.Events.raised u.before.lob)
    kind_is = subst (λ (b : Body). IsKind b row u.before) body_is kind

    page_is : row.lob.page ≡ u.before.lob.page
    page_is = ap (λ (r : Reference). r.page) kind_is.2

    abbrev old_version : Lob → Lob
    old_version = at_version u.before.lob.version

    abbrev set_back : HeldLob → HeldLob
    set_back h = record { version = u.before.lob.version; pieces = h.pieces }

    lobs_is : lobs' ≡ on_lob row.lob.page old_version store.lobs
    lobs_is = ap (λ (b : Body). unmade b u.before store.lobs) body_is ∙ ap (λ (n : ℕ). on_lob n old_version store.lobs) (sym page_is)

    list_is : held_lobs lobs' (own_pages u.before ++ change_lobs cs) ≡ at_first set_back (lob_list store u.doc)
    list_is =
        ap₂ (λ (ls : List Lob) (ps : List ℕ). held_lobs ls (ps ++ change_lobs cs)) lobs_is
        (ap₂ (λ (s : RowState) (n : ℕ). owned_if s n) (kind_is.1 ∙ sym kind_is.0) (sym page_is))
        ∙ ap (λ (ps : List ℕ). held_lobs (on_lob row.lob.page old_version store.lobs) (own_pages row ++ ps))
        (ap (λ (b : Body). owned_by b u.before ++ change_lobs cs) (sym body_is) ∙ ap change_lobs (sym was))
        ∙ first_changes store u.doc row.lob.page old_version set_back m all.well kind_is.0 refl there (λ l. refl) refl

    older_up : (v : ℕ) (vs : List Version) → AreOlderUpTo v vs → AllUpTo v (map (λ (w : Version). w.number) vs)
    older_up v [] h = tt
    older_up v (w ∷ ws) h = (h.0, older_up v ws h.1)

    pieces_up : (v : ℕ) (ps : List Piece) → AreUpTo v ps → AreBelow v (map numbers_of ps)
    pieces_up v [] h = tt
    pieces_up v (p ∷ ps) h = (older_up v (p.head ∷ p.older) h.0, pieces_up v ps h.1)

    low : AreBelow u.before.lob.version (map numbers_of m.pieces)
    low = pieces_up u.before.lob.version m.pieces (subst (λ (b : Body). IsLowered b u.before store.lobs) body_is lowered m (ap (lob_of store.lobs) (sym page_is) ∙ there))

    back : (done : List ℕ) (xs : List HeldLob) → lob_list store u.doc ≡ at_first (raised done) xs → at_first set_back (lob_list store u.doc) ≡ xs
    back done xs is =
        let f = first_is store u.doc (change trx place u) cs all was (subst IsVersioned (sym body_is) tt) m there 0 [] done xs is in
        let v_is : u.before.lob.version ≡ f.0.version =
        (let a = version_there store u.doc m all kind_is.0 there in let b : row.lob.version ≡ suc u.before.lob.version = ap (λ (r : Reference). r.version) kind_is.2 in
        let g : m.version ≡ f.0.version + 1 = ap (λ (h : HeldLob). h.version) f.3 in omega (arith, a, b, g)) in
        let pieces_is : at_pieces done (λ vs. (f.0.version + 1) ∷ vs) 1 f.0.pieces ≡ f.0.pieces =
        none_at f.0.version 1 done f.0.pieces (subst (λ (v : ℕ). AreBelow v (at_pieces done (λ vs. (f.0.version + 1) ∷ vs) 1 f.0.pieces)) v_is (subst (AreBelow u.before.lob.version) (ap (λ (h : HeldLob). h.pieces) f.3) low)) in
        ap (at_first set_back) (is ∙ ap (at_first (raised done)) f.2)
        ∙ ap₂ (λ (v : ℕ) (ps : List (List ℕ)). let h : HeldLob = record { version = v; pieces = ps } in h ∷ f.1) v_is pieces_is ∙ sym f.2

    pub raised_undoes : UndoesLobs trx u.doc store (undo_ended trx u store)
    raised_undoes = undoes
        (λ k done xs of_kind is. versioned_kind u.body k of_kind (subst IsVersioned (sym body_is) tt) (λ t e. list_is ∙ back done xs (is ∙ ap (λ (q : Kind). add (part_kind done q) xs) e)))
        (λ q other. ap (λ (ls : List Lob). held_lobs ls (lob_pages store q)) lobs_is
        ∙ held_same row.lob.page store.lobs (on_lob row.lob.page old_version store.lobs) (lob_pages store q) (λ r apart. lob-on_other r row.lob.page old_version store.lobs (λ l. refl) apart)
        (doc_not row.lob.page store q all.well (others_elsewhere store u.doc q row.lob.page all.well (λ g. other (sym g)) kind_is.0 refl)))

  -- it changed bytes in place
  pub patched_undoes : (old : List Run) → u.body ≡ bodies.patched old → UndoesLobs trx u.doc store (undo_ended trx u store)
  patched_undoes old body_is =
      let k : (row.state ≡ live) × (u.before.state ≡ live) × (row.lob ≡ u.before.lob) = subst (λ (b : Body). IsKind b row u.before) body_is kind in
      let lobs_is : lobs' ≡ lobs_laid old store.lobs = ap (λ (b : Body). unmade b u.before store.lobs) body_is in
      let same : (ps : List ℕ) → held_lobs lobs' ps ≡ held_lobs store.lobs ps = λ ps. ap (λ (ls : List Lob). held_lobs ls ps) lobs_is ∙ held_laid old store.lobs ps in
      let pages : own_pages u.before ++ change_lobs cs ≡ own_pages row ++ (owned_by u.body u.before ++ change_lobs cs) =
      ap₂ (λ (s : RowState) (n : ℕ). owned_if s n ++ change_lobs cs) (k.1 ∙ sym k.0) (ap (λ (r : Reference). r.page) (sym k.2)) ∙ ap (λ (b : Body). own_pages row ++ (owned_by b u.before ++ change_lobs cs)) (sym body_is) in
      undoes (λ q done xs of_kind is. same (own_pages u.before ++ change_lobs cs) ∙ ap (held_lobs store.lobs) pages ∙ sym old_list ∙ by_kind u.body q of_kind body_is done xs is)
      (λ q other. same (lob_pages store q))
    where
      by_kind : (b : Body) (q : Kind) → IsOfKind q b → b ≡ bodies.patched old → (done : List ℕ) (xs : List HeldLob) → lob_list store u.doc ≡ add (part_kind done q) xs → lob_list store u.doc ≡ xs
      by_kind (bodies.patched rs) patched h e done xs is = is
      by_kind (bodies.patched rs) (inserted n) h e done xs is = absurd h
      by_kind (bodies.patched rs) (rebuilt n) h e done xs is = absurd h
      by_kind (bodies.patched rs) (versioned t) h e done xs is = absurd h
      by_kind (bodies.patched rs) removed h e done xs is = absurd h
      by_kind (bodies.inserted p) q h e done xs is = absurd (cc e)
      by_kind (bodies.rebuilt p) q h e done xs is = absurd (cc e)
      by_kind (bodies.versioned ps t) q h e done xs is = absurd (cc e)
      by_kind bodies.removed q h e done xs is = absurd (cc e)

  -- it removed the document
  pub removed_undoes : u.body ≡ bodies.removed → UndoesLobs trx u.doc store (undo_ended trx u store)
  removed_undoes body_is =
      let k : (row.state ≡ deleted) × (u.before.state ≡ live) × (row.lob ≡ u.before.lob) = subst (λ (b : Body). IsKind b row u.before) body_is kind in
      let lobs_is : lobs' ≡ store.lobs = ap (λ (b : Body). unmade b u.before store.lobs) body_is in
      let pages : own_pages u.before ++ change_lobs cs ≡ own_pages row ++ (owned_by u.body u.before ++ change_lobs cs) =
      ap (λ (s : RowState). owned_if s u.before.lob.page ++ change_lobs cs) k.1
      ∙ ap (λ (s : RowState). owned_if s row.lob.page ++ (u.before.lob.page ∷ change_lobs cs)) (sym k.0)
      ∙ ap (λ (b : Body). own_pages row ++ (owned_by b u.before ++ change_lobs cs)) (sym body_is) in
      undoes (λ q done xs of_kind is. ap (λ (ls : List Lob). held_lobs ls (own_pages u.before ++ change_lobs cs)) lobs_is ∙ ap (held_lobs store.lobs) pages ∙ sym old_list ∙ by_kind u.body q of_kind body_is done xs is)
      (λ q other. ap (λ (ls : List Lob). held_lobs ls (lob_pages store q)) lobs_is)
    where
      by_kind : (b : Body) (q : Kind) → IsOfKind q b → b ≡ bodies.removed → (done : List ℕ) (xs : List HeldLob) → lob_list store u.doc ≡ add (part_kind done q) xs → lob_list store u.doc ≡ xs
      by_kind bodies.removed removed h e done xs is = is
      by_kind bodies.removed (inserted n) h e done xs is = absurd h
      by_kind bodies.removed (rebuilt n) h e done xs is = absurd h
      by_kind bodies.removed (versioned t) h e done xs is = absurd h
      by_kind bodies.removed patched h e done xs is = absurd h
      by_kind (bodies.inserted p) q h e done xs is = absurd (cc e)
      by_kind (bodies.rebuilt p) q h e done xs is = absurd (cc e)
      by_kind (bodies.versioned ps t) q h e done xs is = absurd (cc e)
      by_kind (bodies.patched rs) q h e done xs is = absurd (cc e)
