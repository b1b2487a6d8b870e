-- Rows entered from the slots of a row page.
use Rattle.std.proofs.Common.{◌≡◌, ◌⊎◌, inl, inr, ℕ, zero, suc, ◌+◌, ◌*◌, ◌<◌, ◌≤◌, ◌==◌, nat_eq, false, cond, List, [], ◌∷◌, ◌++◌, length, take, Option, Some, None, IfSome, is_some, refl, sym, ap, subst, ◌∙◌, arith}
use Rattle.std.proofs.Common.{Result, Ok, Err, IfErr, IsErr, IsErrAnd, is_ok, if◌then◌else◌}
use Rattle.std.specs.Option.{option_map}
use Rattle.std.specs.Map.{keys_of, lookup}
use Rattle.std.proofs.lemmas.Bool.{ne_eqb}
use Rattle.std.proofs.lemmas.List.{length-append, append_assoc, append-nil}
use Rattle.indexmap.specs.IndexMap.{get, insert_entry, IsUnique}
use Rattle.indexmap.proofs.CallerLemmas.{insert_entry-new}
use Rattle.page_model.specs.Pages.{Pages, Address, field}
use Rattle.engine_base.specs.Addresses.{address_of}
use Rattle.engine_base.specs.Faults.{Oddity, IsHonest}
use Rattle.engine_base.specs.declared.fault.Fault.{Fault}
use Rattle.engine_base.specs.declared.fault.Fault.TheVariants.{Device, Strange}
use Rattle.engine_base.specs.declared.addr.Addr.{Addr}
use Rattle.engine_base.specs.declared.ids.DocId.{DocId}
use Rattle.store_data.specs.Store.{RowState, absent, live, deleted}
use Rattle.undo_model.specs.Bytes.{state_code}
use Rattle.undo_model.specs.Rows.{Keyed, RowPage, IsPresent, AreOnce, IsRows, IsSlot, AreSlots, somes, rows_of, row_for}
use Rattle.row_dir.specs.declared.dir.RowDir.{RowDir}
use Rattle.row_dir.specs.RowPages.{page_of}
use Rattle.row_dir.specs.Directory.{free_in, rooms_of, places_in, places_of, place_for, AreFull, IsDirectory, numbers}
use Rattle.row_dir.specs.Loads.{HasPageRoom, Holds, EntersRow, EntersOnly, IsNext, AreNew, NamesField, IsOddField}
use Rattle.row_dir.specs.Slots.{IsOddState}
use Rattle.row_dir.proofs.RowsLemmas.{rows_join, rows_before, rows_behind, rows_around, places_join, places_in_join, look_more, once_less, none_of_new, new_split}
use Rattle.row_dir.proofs.FindLemmas.{some_both}
use Rattle.row_dir.proofs.PutLemmas.{rooms_join, numbers_pushed, map_cond, free_join}
use Rattle.row_dir.proofs.ChangeLemmas.{NotIn, are_split, only_page}

-- ---- what a fault names

pub honest_on : {A B : Type 0} (P Q : Oddity) (r : Result A Fault) (s : Result B Fault) (e : Fault) → ((page at v : ℕ) → P page at v → Q page at v) → IfErr r (IsHonest P) → r ≡ Err e → IsErr s × IsErrAnd s (λ f. f ≡ e) → IfErr s (IsHonest Q)
honest_on P Q r (Ok b) e weak is was err = tt
honest_on {A = A} P Q r (Err f) e weak is was err =
    let R : Result A Fault → Type 0 = λ q. IfErr q (IsHonest P) in
    subst (IsHonest Q) (sym err.1) (weaker e (subst R was is))
  where
    weaker : (e : Fault) → IsHonest P e → IsHonest Q e
    weaker Device h = tt
    weaker (Strange page at v) h = weak page.0 at v h

pub odd_state : (told : Option Pages) (a : Address) (page at v : ℕ) → IsOddState told a page at v → IsOddField told a.page page at v
odd_state told a page at v odd =
    let n = odd.0 in
    record { same = n.same_page; width = 1; reads = subst (λ (m : ℕ). IfSome told (λ pages. v ≡ field pages a.page m 1)) (sym n.same_place) n.reads }

pub doc_named : (told : Option Pages) (page at doc v : ℕ) (k : Keyed) → k.doc ≡ doc → v ≡ doc → IfSome told (λ pages. IsSlot pages page at (Some k)) → NamesField told page page (at + 1) v
doc_named None page at doc v k its is stands = record { same = refl; width = 4; reads = tt }
doc_named (Some pages) page at doc v k its is stands = record { same = refl; width = 4; reads = is ∙ (sym its ∙ sym stands.doc) }

-- ---- room

pub one_more : {A B : Type 0} (r : Result A B) (n o : ℕ) → n ≡ (if is_ok r then o + 1 else o) → n ≤ o + 1
one_more (Ok x) n o is = omega (arith, is)
one_more (Err e) n o is = omega (arith, is)

pub record Room (dir : RowDir) (at free : ℕ) : Type 0 where
  pub n : ℕ
  pub rest : ℕ
  pub place : at ≡ 52 + 40 * n
  pub sum : n + rest ≡ 408
  pub few : free ≤ n
  pub room : HasPageRoom dir rest

pub room_one : (dir : RowDir) (at free : ℕ) → at < 16_372 → Room dir at free → HasPageRoom dir 1
room_one dir at free below r =
    let p = r.place in let s = r.sum in let a = r.room.places in let b = r.room.docs in
    record { places = omega (arith, below, p, s, a); docs = omega (arith, below, p, s, b) }

pub room_then : (dir dir' : RowDir) (at free f : ℕ) → at < 16_372 → f ≤ 1 → Room dir at free → ((n : ℕ) → HasPageRoom dir (n + 1) → HasPageRoom dir' n) → Room dir' (at + 40) (free + f)
room_then dir dir' at free f below one r keeps = by r.rest r.sum r.room
  where
    by : (rest : ℕ) → r.n + rest ≡ 408 → HasPageRoom dir rest → Room dir' (at + 40) (free + f)
    by zero sum room = let p = r.place in absurd (omega (arith, below, p, sum))
    by (suc rest) sum room =
        let p = r.place in let w = r.few in
        record { n = r.n + 1; rest = rest; place = omega (arith, p); sum = omega (arith, sum); few = omega (arith, w, one); room = keeps rest (subst (HasPageRoom dir) (omega arith) room) }

-- ---- one slot

no_state : (s : RowState) → IsPresent s → state_code s ≡ 0 → ⊥
no_state absent is e = is
no_state live is e = omega (arith, e)
no_state deleted is e = omega (arith, e)

nothing : {A : Type 0} → (es : List A) → es ++ [] ≡ es
nothing es = append-nil es

pub held_none : (dir : RowDir) (es : List (ℕ × Address)) (pages : Pages) (page at : ℕ) (s : Option Keyed) → IsSlot pages page at None → IsSlot pages page at s → Holds dir es
    → Holds dir (es ++ places_in page at (s ∷ [])) × (1 ≡ free_in (s ∷ []))
held_none dir es pages page at None is there h = (subst (Holds dir) (sym (nothing es)) h, refl)
held_none dir es pages page at (Some k) is there h = absurd (no_state k.row.state there.present (sym there.state ∙ is))

pub held_some : (dir dir' : RowDir) (es : List (ℕ × Address)) (pages : Pages) (place : Addr) (doc : DocId) (k' : Keyed) (s : Option Keyed) → IsSlot pages place.page.0 place.at (Some k') → IsSlot pages place.page.0 place.at s → k'.doc ≡ doc.0
    → IfSome s (λ k. place_for k.doc es ≡ None) → EntersRow doc place dir dir' → Holds dir es
    → Holds dir' (es ++ places_in place.page.0 place.at (s ∷ [])) × (0 ≡ free_in (s ∷ []))
held_some dir dir' es pages place doc k' None is there its new notes h = absurd (no_state k'.row.state is.present (sym is.state ∙ there))
held_some dir dir' es pages place doc k' (Some k) is there its new notes h = (
  record {
    finds = λ m.
        let none : place_for k.doc (es ++ []) ≡ None = ap (place_for k.doc) (nothing es) ∙ new in
        let same : k.doc ≡ doc.0 = sym there.doc ∙ (is.doc ∙ its) in
        ap (option_map address_of) (notes.finds m) ∙ (map_cond address_of (nat_eq doc.0 m) place (get nat_eq dir.places m)
        ∙ (ap (λ (o : Option Address). cond (nat_eq doc.0 m) (Some (address_of place)) o) (h.finds m ∙ sym (ap (place_for m) (nothing es)))
        ∙ (ap (λ (x : ℕ). cond (x == m) (Some (address_of place)) (place_for m (es ++ []))) (sym same)
        ∙ sym (look_more k.doc m (address_of place) es [] none))));
    docs = ap numbers notes.docs ∙ (numbers_pushed dir.docs.items doc ∙ (ap (λ (ns : List ℕ). ns ++ doc.0 ∷ []) h.docs ∙ sym notes.keys));
    once = notes.once;
  },
  refl,
)

-- a document that is there already isn't new
pub not_there : (dir : RowDir) (es : List (ℕ × Address)) (pages : Pages) (place : Addr) (n : ℕ) (a : Addr) (k' : Keyed) (s : Option Keyed) → IsSlot pages place.page.0 place.at (Some k') → IsSlot pages place.page.0 place.at s → k'.doc ≡ n
    → IfSome s (λ k. place_for k.doc es ≡ None) → Holds dir es → Some a ≡ get nat_eq dir.places n → ⊥
not_there dir es pages place n a k' None is there its new h has = no_state k'.row.state is.present (sym is.state ∙ there)
not_there dir es pages place n a k' (Some k) is there its new h has =
    let same : k.doc ≡ n = sym there.doc ∙ (is.doc ∙ its) in
    let e : Some (address_of a) ≡ None = ap (option_map address_of) has ∙ (h.finds n ∙ (ap (λ (x : ℕ). place_for x es) (sym same) ∙ new)) in
    cc

-- ---- the slots passed so far

pub record Passed (pages : Pages) (page : ℕ) (slots : List (Option Keyed)) (es : List (ℕ × Address)) (dir : RowDir) (at free : ℕ) : Type 0 where
  pub before : List (Option Keyed)
  pub rest : List (Option Keyed)
  pub split : slots ≡ before ++ rest
  pub place : at ≡ 52 + 40 * length before
  pub are : AreSlots pages page at rest
  pub holds : Holds dir (es ++ places_in page 52 before)
  pub counts : free ≡ free_in before

pub record Here (pages : Pages) (page : ℕ) (slots : List (Option Keyed)) (es : List (ℕ × Address)) (dir : RowDir) (at free : ℕ) : Type 0 where
  pub s : Option Keyed
  pub so_far : List (ℕ × Address)
  pub stands : IsSlot pages page at s
  pub holds : Holds dir so_far
  pub new : IfSome s (λ k. place_for k.doc so_far ≡ None)
  pub goes_on : (dir' : RowDir) (f : ℕ) → Holds dir' (so_far ++ places_in page at (s ∷ [])) → f ≡ free_in (s ∷ []) → Passed pages page slots es dir' (at + 40) (free + f)

pub none_passed : (pages : Pages) (page : ℕ) (slots : List (Option Keyed)) (es : List (ℕ × Address)) (dir : RowDir) → AreSlots pages page 52 slots → Holds dir es → Passed pages page slots es dir 52 0
none_passed pages page slots es dir are h = record { before = []; rest = slots; split = refl; place = refl; are = are; holds = subst (Holds dir) (sym (nothing es)) h; counts = refl }

new_here : (page : ℕ) (es : List (ℕ × Address)) (slots before more : List (Option Keyed)) (s : Option Keyed) → slots ≡ before ++ s ∷ more → AreNew page es slots → IfSome s (λ k. place_for k.doc (es ++ places_in page 52 before) ≡ None)
new_here page es slots before more None split new = tt
new_here page es slots before more (Some k) split new = new before more k split

pub slot_here : (pages : Pages) (page : ℕ) (slots : List (Option Keyed)) (es : List (ℕ × Address)) (dir : RowDir) (at free : ℕ) → length slots ≡ 408 → AreNew page es slots → at < 16_372 → Passed pages page slots es dir at free
    → Here pages page slots es dir at free
slot_here pages page slots es dir at free many new below p = by p.rest p.split p.are
  where
    by : (rest : List (Option Keyed)) → slots ≡ p.before ++ rest → AreSlots pages page at rest → Here pages page slots es dir at free
    by [] split are = absurd (let l = ap length split in let j = length-append p.before [] in let a = p.place in omega (arith, l, j, a, many, below))
    by (s ∷ more) split are = record {
      s = s;
      so_far = es ++ places_in page 52 p.before;
      stands = are.0;
      holds = p.holds;
      new = new_here page es slots p.before more s split new;
      goes_on = λ dir' f h is. record {
        before = p.before ++ s ∷ [];
        rest = more;
        split = split ∙ sym (append_assoc p.before (s ∷ []) more);
        place = (let a = p.place in let j = length-append p.before (s ∷ []) in omega (arith, a, j));
        are = are.1;
        holds =
            (let e : (es ++ places_in page 52 p.before) ++ places_in page at (s ∷ []) ≡ es ++ places_in page 52 (p.before ++ s ∷ []) =
            append_assoc es (places_in page 52 p.before) (places_in page at (s ∷ []))
            ∙ ap (λ (xs : List (ℕ × Address)). es ++ xs) (ap (λ (n : ℕ). places_in page 52 p.before ++ places_in page n (s ∷ [])) p.place ∙ sym (places_in_join page 52 p.before (s ∷ []))) in
            subst (Holds dir') e h);
        counts = (let c = p.counts in let j = free_join p.before (s ∷ []) in omega (arith, c, j, is));
      };
    }

pub all_passed : (pages : Pages) (page : ℕ) (slots : List (Option Keyed)) (es : List (ℕ × Address)) (dir : RowDir) (at free : ℕ) → length slots ≡ 408 → 16_372 ≤ at → Passed pages page slots es dir at free
    → Holds dir (es ++ places_in page 52 slots) × (free ≡ free_in slots)
all_passed pages page slots es dir at free many past p = by p.rest p.split
  where
    by : (rest : List (Option Keyed)) → slots ≡ p.before ++ rest → Holds dir (es ++ places_in page 52 slots) × (free ≡ free_in slots)
    by [] split =
        let same : p.before ≡ slots = sym (nothing p.before) ∙ sym split in
        (subst (λ xs. Holds dir (es ++ places_in page 52 xs)) same p.holds, p.counts ∙ ap free_in same)
    by (s ∷ more) split = absurd (let l = ap length split in let j = length-append p.before (s ∷ more) in let a = p.place in omega (arith, l, j, a, many, past))

-- ---- the page behind the others

none_of : {A : Type 0} (o : Option A) → is_some o ≡ false → o ≡ None
none_of None e = refl
none_of (Some x) e = cc

pub new_slots : (pages : Pages) (rows : List RowPage) (q : RowPage) → IsNext pages rows q → AreNew q.page (places_of rows) q.slots
new_slots pages rows q next = λ before behind k split.
    let n = q.page in
    let once : AreOnce (rows_of (rows ++ page_of n (before ++ Some k ∷ behind) ∷ [])) = subst (λ xs. AreOnce (rows_of (rows ++ page_of n xs ∷ []))) split next.once in
    let around = once_less (rows_before rows before) k (rows_behind behind []) (subst AreOnce (rows_around rows n before (Some k) behind []) once) in
    let new = (new_split k.doc (rows_before rows before) (rows_behind behind []) around.1).0 in
    let r : rows_of (rows ++ page_of n before ∷ []) ≡ rows_before rows before = rows_join rows (page_of n before ∷ []) ∙ ap (λ (xs : List Keyed). rows_of rows ++ xs) (nothing (somes before)) in
    let p : places_of (rows ++ page_of n before ∷ []) ≡ places_of rows ++ places_in n 52 before = places_join rows (page_of n before ∷ []) ∙ ap (λ (xs : List (ℕ × Address)). places_of rows ++ xs) (nothing (places_in n 52 before)) in
    let no_row : row_for k.doc (rows_of (rows ++ page_of n before ∷ [])) ≡ None = ap (row_for k.doc) r ∙ none_of_new k.doc (rows_before rows before) new in
    ap (place_for k.doc) (sym p) ∙ none_of _ (some_both k.doc (rows ++ page_of n before ∷ []) ∙ ap is_some no_row)

pub holds_first : (dir : RowDir) (rows : List RowPage) → IsDirectory dir rows → Holds dir (places_of rows)
holds_first dir rows d = record { finds = d.finds; docs = d.docs; once = d.once }

none_full : (rooms : List (ℕ × ℕ)) → AreFull (take 0 rooms)
none_full [] = tt
none_full (r ∷ rooms) = tt

-- its rows entered, and the page noted
pub loaded : (dir mid new : RowDir) (pages : Pages) (rows : List RowPage) (q : RowPage) (page free : ℕ) → q.page ≡ page → IsNext pages rows q → IsDirectory dir rows → Holds mid (places_of rows ++ places_in q.page 52 q.slots) → free ≡ free_in q.slots → mid.pages ≡ dir.pages
    → new.places ≡ mid.places → new.docs ≡ mid.docs → new.pages.entries ≡ insert_entry nat_eq mid.pages.entries page free → IsUnique nat_eq new.pages → new.full ≡ 0
    → IsDirectory new (rows ++ q ∷ [])
loaded dir mid new pages rows q page free its next d h counts kept places docs entries each unknown =
    let none : get nat_eq dir.pages q.page ≡ None = ap (lookup (nat_eq q.page)) d.rooms ∙ next.other in
    let e : new.pages.entries ≡ rooms_of rows ++ (q.page, free_in q.slots) ∷ [] =
    entries ∙ (ap (λ (n : ℕ). insert_entry nat_eq mid.pages.entries n free) (sym its)
    ∙ (ap (λ m. insert_entry nat_eq m.entries q.page free) kept
    ∙ (insert_entry-new nat_eq dir.pages q.page free none
    ∙ (ap (λ (es : List (ℕ × ℕ)). es ++ (q.page, free) ∷ []) d.rooms ∙ ap (λ (f : ℕ). rooms_of rows ++ (q.page, f) ∷ []) counts)))) in
    record {
      finds = λ m. ap (λ es. option_map address_of (get nat_eq es m)) places ∙ (h.finds m ∙ ap (place_for m) (sym (places_join rows (q ∷ []) ∙ ap (λ (xs : List (ℕ × Address)). places_of rows ++ xs) (nothing (places_in q.page 52 q.slots)))));
      rooms = e ∙ sym (rooms_join rows (q ∷ []));
      full = subst (λ n. AreFull (take n new.pages.entries)) (sym unknown) (none_full new.pages.entries);
      docs = ap (λ ds. numbers ds.items) docs ∙ (h.docs ∙ ap (λ es. keys_of es.entries) (sym places));
      once = subst (IsUnique nat_eq) (sym places) h.once;
      each_once = each;
    }

-- ---- in the order of their list

other_page : (n : ℕ) (rows : List RowPage) → NotIn n rows → lookup (nat_eq n) (rooms_of rows) ≡ None
other_page n [] is = refl
other_page n (p ∷ rows) is = let e : (n == p.page) ≡ false = ne_eqb n p.page (λ e. absurd (is.0 (sym e))) in rw e (other_page n rows is.1)

once_first : (xs ys : List Keyed) → AreOnce (xs ++ ys) → AreOnce xs
once_first [] ys once = tt
once_first (x ∷ xs) ys once = ((new_split x.doc xs ys once.0).0, once_first xs ys once.1)

-- each row page is the next behind those before it, so all of them, loaded one after another, are
-- the directory
pub next_in_list : (pages : Pages) (base : Address) (before : List RowPage) (q : RowPage) (behind : List RowPage) → IsRows pages base (before ++ q ∷ behind) → IsNext pages before q
next_in_list pages base before q behind is =
    let e : rows_of (before ++ q ∷ behind) ≡ rows_of (before ++ q ∷ []) ++ rows_of behind = ap rows_of (sym (append_assoc before (q ∷ []) behind)) ∙ rows_join (before ++ q ∷ []) behind in
    record {
      stands = (are_split pages before q behind is.each).1;
      other = other_page q.page before (only_page before q behind is.list.apart.1).0;
      once = once_first (rows_of (before ++ q ∷ [])) (rows_of behind) (subst AreOnce e is.once);
    }

-- what two calls enter, one after the other
pub enters_then : (page : ℕ) (a b c : RowDir) → EntersOnly page a b → EntersOnly page b c → EntersOnly page a c
enters_then page a b c one two = record { places = λ d. by d (one.places d) (two.places d) }
  where
    S : ℕ → Type 0
    S d = IfSome (get nat_eq c.places d) (λ p. p.page.0 ≡ page)

    by : (d : ℕ) → (get nat_eq b.places d ≡ get nat_eq a.places d) ⊎ IfSome (get nat_eq b.places d) (λ p. p.page.0 ≡ page) → (get nat_eq c.places d ≡ get nat_eq b.places d) ⊎ S d → (get nat_eq c.places d ≡ get nat_eq a.places d) ⊎ S d
    by d x (inr y) = inr y
    by d (inl e) (inl f) = inl (f ∙ e)
    by d (inr x) (inl f) = inr (subst (λ o. IfSome o (λ p. p.page.0 ≡ page)) (sym f) x)
