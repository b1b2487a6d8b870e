-- A read under way is kept by each event of others.
use Rattle.std.proofs.Common.{◌≡◌, inl, inr, ℕ, Bool, true, false, cond, List, [], ◌∷◌, ◌++◌, length, map, refl, sym, ap, subst, ◌∙◌, arith, rules}
use Rattle.std.specs.Prelude.{Option, Some, None}
use Rattle.std.proofs.lemmas.Bool.{false≢true}
use Rattle.page_model.specs.Pages.{Address}
use Rattle.store_data.specs.Pieces.{Part}
use Rattle.store_data.specs.Store.{Row, live, Piece}
use Rattle.store_model.specs.Undo.{same_place}
use Rattle.read_model.specs.Patches.{Entry, runs, back}
use Rattle.read_model.specs.Document.{Document, Sees, IsSeen, IsVisible, content, part_at, pieces_at}
use Rattle.read_model.specs.Flight.{Phase, Seek, Found, Pieces, Unpatch, Ready, Absent, Flight, lent, row_behind, onward, IsSearchIn, IsCopying, IsFlightIn, IsFlight}
use Rattle.read_model.specs.Steps.{moved, leads_to}
use Rattle.read_model.specs.Events.{Adds, Touches, Frees, Passes, LeadsBack, IsSame, IsMoved, EachPiece}
use Rattle.read_model.proofs.VisibleLemmas.{never, content_same, added, passed}
use Rattle.read_model.proofs.PartLemmas.{parts_added, parts_same, parts_moved, copied_added, search_none, search_kept, search_by, each_drop}

-- ---- a record is added

copying_added : (sees : Sees) (old new : Document) (e : Entry) (shown : List Part) (f : Flight) → Adds sees old new e → IsCopying sees old shown f → IsCopying sees new shown f
copying_added sees old new e shown f a c =
    let each = a.pieces c.above c.older f.row c.visible c.state in
    record {
      above = e ∷ c.above;
      older = c.older;
      visible = added sees old new e c.above c.older f.row a c.visible;
      state = c.state;
      holds = parts_added e c.above f.row.lob.version _ _ each ∙ c.holds;
      copied = copied_added e c.above f.row.lob.version f.copied shown _ _ c.holds each c.copied;
      search = search_kept (LeadsBack (runs e) f.row.lob.version) f.row.lob.version f.node (length f.copied) _ _ (λ x y p. p.search) each c.search;
    }

content_added : (sees : Sees) (old new : Document) (e : Entry) (above older : List Entry) (v : Row) → Adds sees old new e → IsVisible sees old above older v
    → content new.lobs v (e ∷ above) ≡ content old.lobs v above
content_added sees old new e above older v a visible =
    content_same old.lobs new.lobs v above (e ∷ above) (λ is. parts_added e above v.lob.version _ _ (a.pieces above older v visible is))

added_in : (p : Phase) (sees : Sees) (old new : Document) (e : Entry) (shown : Option (List Part)) (f : Flight) → Adds sees old new e
    → IsFlightIn p sees old shown f → IsFlightIn p sees new shown f
added_in Seek sees old new e shown f a (inl c) = inl (record {
  passed = e ∷ c.passed;
  rest = c.rest;
  older = c.older;
  v = c.v;
  visible = added sees old new e (c.passed ++ c.rest) c.older c.v a c.visible;
  holds = content_added sees old new e (c.passed ++ c.rest) c.older c.v a c.visible ∙ c.holds;
  judged = c.judged ∙ ap (λ (r : Row). row_behind r c.passed) (sym a.before);
})
added_in Seek sees old new e shown f a (inr c) = inr (record {
  above = e ∷ c.above;
  older = c.older;
  v = c.v;
  visible = added sees old new e c.above c.older c.v a c.visible;
  holds = content_added sees old new e c.above c.older c.v a c.visible ∙ c.holds;
  seen = c.seen;
  state = c.state;
  nothing = c.nothing;
})
added_in (Found n) sees old new e shown f a c = (c.0, c.1, copying_added sees old new e c.0 (lent f) a c.2, c.3)
added_in Pieces sees old new e shown f a c = (c.0, c.1, copying_added sees old new e c.0 f a c.2)
added_in Unpatch sees old new e shown f a c = (
  c.0,
  c.1,
  record {
    newer = e ∷ c.2.newer;
    rest = c.2.rest;
    older = c.2.older;
    visible = added sees old new e (c.2.newer ++ c.2.rest) c.2.older f.row a c.2.visible;
    state = c.2.state;
    cursor = c.2.cursor ∙ ap (λ (r : Row). onward f.row (row_behind r c.2.newer)) (sym a.before);
    copied = c.2.copied;
  },
)
added_in Ready sees old new e shown f a c = c
added_in Absent sees old new e shown f a c = c

-- a read stays as it must be where a transaction that its view doesn't see changes the row
pub kept_where_added : (sees : Sees) (old new : Document) (e : Entry) (shown : Option (List Part)) (f : Flight) → Adds sees old new e → IsFlight sees old shown f → IsFlight sees new shown f
kept_where_added sees old new e shown f a kept = added_in f.phase sees old new e shown f a kept

-- ---- the chain stays as far as the visible row, and its LOB at its version

record Keeps (sees : Sees) (old new : Document) (P : ℕ → Piece → Piece → Type 0) : Type 0 where
  row : new.row ≡ old.row
  visible : (above older : List Entry) (v : Row) → IsVisible sees old above older v → (left : List Entry) × IsVisible sees new above left v
  pieces : (above older : List Entry) (v : Row) → IsVisible sees old above older v → v.state ≡ live → EachPiece (P v.lob.version) (pieces_at old.lobs v.lob.page) (pieces_at new.lobs v.lob.page)
  parts : (above : List Entry) (v : ℕ) (xs ys : List Piece) → EachPiece (P v) xs ys → map (back above) (map (part_at v) ys) ≡ map (back above) (map (part_at v) xs)

-- the same read, or one whose search goes on from another node
record IsSameBut (f g : Flight) : Type 0 where
  phase : g.phase ≡ f.phase
  row : g.row ≡ f.row
  cursor : g.cursor ≡ f.cursor
  copied : g.copied ≡ f.copied

content_kept : (sees : Sees) (old new : Document) (P : _) (above older : List Entry) (v : Row) → Keeps sees old new P → IsVisible sees old above older v
    → content new.lobs v above ≡ content old.lobs v above
content_kept sees old new P above older v k visible =
    content_same old.lobs new.lobs v above above (λ is. k.parts above v.lob.version _ _ (k.pieces above older v visible is))

copying_kept : (sees : Sees) (old new : Document) (P : _) (shown : List Part) (f : Flight) (at : Option Address) → Keeps sees old new P
    → ((xs ys : List Piece) → EachPiece (P f.row.lob.version) xs ys → IsSearchIn f.row.lob.version f.node xs → IsSearchIn f.row.lob.version at ys)
    → IsCopying sees old shown f → IsCopying sees new shown (record f { node = at })
copying_kept sees old new P shown f at k on c =
    let each = k.pieces c.above c.older f.row c.visible c.state in
    let left = k.visible c.above c.older f.row c.visible in
    record {
      above = c.above;
      older = left.0;
      visible = left.1;
      state = c.state;
      holds = k.parts c.above f.row.lob.version _ _ each ∙ c.holds;
      copied = c.copied;
      search = on _ _ (each_drop (P f.row.lob.version) (length f.copied) _ _ each) c.search;
    }

kept_in : (p : Phase) (sees : Sees) (old new : Document) (P : _) (shown : Option (List Part)) (f : Flight) (at : Option Address) → Keeps sees old new P
    → ((xs ys : List Piece) → EachPiece (P f.row.lob.version) xs ys → IsSearchIn f.row.lob.version f.node xs → IsSearchIn f.row.lob.version at ys)
    → IsFlightIn p sees old shown f → IsFlightIn p sees new shown (record f { node = at })
kept_in Seek sees old new P shown f at k on (inl c) =
    let left = k.visible (c.passed ++ c.rest) c.older c.v c.visible in
    inl (record {
      passed = c.passed;
      rest = c.rest;
      older = left.0;
      v = c.v;
      visible = left.1;
      holds = content_kept sees old new P (c.passed ++ c.rest) c.older c.v k c.visible ∙ c.holds;
      judged = c.judged ∙ ap (λ (r : Row). row_behind r c.passed) (sym k.row);
    })
kept_in Seek sees old new P shown f at k on (inr c) =
    let left = k.visible c.above c.older c.v c.visible in
    inr (record {
      above = c.above;
      older = left.0;
      v = c.v;
      visible = left.1;
      holds = content_kept sees old new P c.above c.older c.v k c.visible ∙ c.holds;
      seen = c.seen;
      state = c.state;
      nothing = c.nothing;
    })
kept_in (Found n) sees old new P shown f at k on c =
    (c.0, c.1, copying_kept sees old new P c.0 (lent f) None k (λ xs ys each search. search_none f.row.lob.version ys) c.2, c.3)
kept_in Pieces sees old new P shown f at k on c = (c.0, c.1, copying_kept sees old new P c.0 f at k on c.2)
kept_in Unpatch sees old new P shown f at k on c =
    let left = k.visible (c.2.newer ++ c.2.rest) c.2.older f.row c.2.visible in (
      c.0,
      c.1,
      record {
        newer = c.2.newer;
        rest = c.2.rest;
        older = left.0;
        visible = left.1;
        state = c.2.state;
        cursor = c.2.cursor ∙ ap (λ (r : Row). onward f.row (row_behind r c.2.newer)) (sym k.row);
        copied = c.2.copied;
      },
    )
kept_in Ready sees old new P shown f at k on c = c
kept_in Absent sees old new P shown f at k on c = c

search_same : (v : ℕ) (node : Option Address) (xs ys : List Piece) → EachPiece (IsSame v) xs ys → IsSearchIn v node xs → IsSearchIn v node ys
search_same v at xs ys each search = search_kept (IsSame v) v at 0 xs ys (λ x y p. p.search) each search

visible_same : (sees : Sees) (old new : Document) (above older : List Entry) (v : Row) → new.row ≡ old.row → new.records ≡ old.records
    → IsVisible sees old above older v → (left : List Entry) × IsVisible sees new above left v
visible_same sees old new above older v row records visible = (
  older,
  record {
    records = records ∙ visible.records;
    walk = subst (λ (r : Row). IsSeen sees r above v) (sym row) visible.walk;
  },
)

-- ---- LOBs alone change

-- a read stays as it must be where LOBs alone are touched
pub kept_where_touched : (sees : Sees) (old new : Document) (shown : Option (List Part)) (f : Flight) → Touches sees old new → IsFlight sees old shown f → IsFlight sees new shown f
kept_where_touched sees old new shown f t kept =
    kept_in f.phase sees old new IsSame shown f f.node (record {
      row = t.row;
      visible = λ above older v visible. visible_same sees old new above older v t.row t.records visible;
      pieces = t.pieces;
      parts = parts_same;
    }) (search_same f.row.lob.version f.node) kept

-- ---- purge goes past records

-- a read stays as it must be where purge goes past records
pub kept_where_passed : (sees : Sees) (old new : Document) (shown : Option (List Part)) (f : Flight) → Passes sees old new → IsFlight sees old shown f → IsFlight sees new shown f
kept_where_passed sees old new shown f p kept =
    kept_in f.phase sees old new IsSame shown f f.node (record {
      row = p.row;
      visible = λ above older v visible. passed sees old new above older v p visible;
      pieces = p.pieces;
      parts = parts_same;
    }) (search_same f.row.lob.version f.node) kept

-- ---- a node is freed

pub address_equal : (a b : Address) → a.page ≡ b.page → a.at ≡ b.at → a ≡ b
address_equal a b p q = rw (p, q) refl

-- addresses that pass the test are equal
pub same_true : (a b : Address) → same_place a b ≡ true → a ≡ b
same_true a b h = address_equal a b (grind (arith, h)) (grind (arith, h))

-- equal addresses pass the test
pub true_same : (a b : Address) → a ≡ b → same_place a b ≡ true
true_same a b h = rw h (search rules)

-- a pointer that passes the test leads to that address
pub leads_true : (n : Option Address) (a : Address) → leads_to n a ≡ true → n ≡ Some a
leads_true None a h = absurd (false≢true h)
leads_true (Some b) a h = ap (λ (x : Address). Some x) (same_true b a h)

-- a pointer to an address passes the test
pub true_leads : (n : Option Address) (a : Address) → n ≡ Some a → leads_to n a ≡ true
true_leads n a h = rw h (true_same a a refl)

search_freed : (node head : Address) (v : ℕ) (at : Option Address) (xs ys : List Piece) → at ≡ Some node → EachPiece (IsMoved node head v) xs ys
    → IsSearchIn v at xs → IsSearchIn v (Some head) ys
search_freed node head v at [] [] is each search = tt
search_freed node head v at [] (y ∷ ys) is each search = absurd each
search_freed node head v at (x ∷ xs) [] is each search = absurd each
search_freed node head v at (x ∷ xs) (y ∷ ys) is each search = each.0.freed (subst (λ (n : Option Address). IsSearchIn v n (x ∷ xs)) is search)

search_on : (node head : Address) (v : ℕ) (at : Option Address) (xs ys : List Piece) → leads_to at node ≡ false → EachPiece (IsMoved node head v) xs ys
    → IsSearchIn v at xs → IsSearchIn v at ys
search_on node head v None xs ys other each search = search_none v ys
search_on node head v (Some a) xs ys other each search =
    search_by (IsMoved node head v) v (Some a) xs ys (λ x y p h. p.search a (λ is. never (true_same a node is) other) h) each search

freed_by : (sees : Sees) (old new : Document) (node head : Address) (shown : Option (List Part)) (f : Flight) (b : Bool) → leads_to f.node node ≡ b
    → Keeps sees old new (IsMoved node head) → IsFlight sees old shown f → IsFlight sees new shown (cond b (record f { node = Some head }) f)
freed_by sees old new node head shown f true is k kept =
    kept_in f.phase sees old new (IsMoved node head) shown f (Some head) k (λ xs ys each search. search_freed node head f.row.lob.version f.node xs ys (leads_true f.node node is) each search) kept
freed_by sees old new node head shown f false is k kept =
    kept_in f.phase sees old new (IsMoved node head) shown f f.node k (λ xs ys each search. search_on node head f.row.lob.version f.node xs ys is each search) kept

-- a read stays as it must be where a node is freed, and it goes on from the head if it stood there
pub kept_where_freed : (sees : Sees) (old new : Document) (node head : Address) (shown : Option (List Part)) (f : Flight) → Frees sees old new node head
    → IsFlight sees old shown f → IsFlight sees new shown (moved node head f)
kept_where_freed sees old new node head shown f t kept =
    freed_by sees old new node head shown f (leads_to f.node node) refl (record {
      row = t.row;
      visible = λ above older v visible. visible_same sees old new above older v t.row t.records visible;
      pieces = t.pieces;
      parts = parts_moved node head;
    }) kept
