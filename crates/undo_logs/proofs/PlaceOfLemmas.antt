-- A record of a log among the others: its page, and that no other one stands at its place.
use Rattle.std.proofs.Common.{◌≡◌, ◌≢◌, ◌⊎◌, inl, inr, ℕ, ◌+◌, ◌<◌, ◌≤◌, ◌==◌, ◌&&◌, cond, Bool, true, false, List, [], ◌∷◌, ◌++◌, Option, Some, None, refl, sym, ap, ap₂, ◌∙◌, subst, arith}
use Rattle.std.proofs.lemmas.Bool.{eq-eqb, ne_eqb}
use Rattle.std.proofs.lemmas.List.{append_assoc}
use Rattle.page_model.specs.Pages.{Pages, Address}
use Rattle.undo_model.specs.Data.{Entry, Part}
use Rattle.undo_model.specs.Bytes.{record_size}
use Rattle.undo_model.specs.Logs.{records_in, end_field, IsFilled, IsPart, AreParts, IsNewPage, first_start, other_start}
use Rattle.undo_model.specs.LogSteps.{oldest, same_address, newer}
use Rattle.undo_model.proofs.LogLemmas.{filled_low}
use Rattle.store_parts.specs.Shows.{down_to, due}
use Rattle.undo_logs.proofs.PopLemmas.{same_head, same_tail}

-- ---- a list cut at a record, where it is two

abbrev InFirst : List Entry → List Entry → List Entry → Entry → List Entry → Type 0
InFirst rs bs xs e ys = (zs : List Entry) × (rs ≡ xs ++ e ∷ zs) × (ys ≡ zs ++ bs)

abbrev InSecond : List Entry → List Entry → List Entry → Entry → List Entry → Type 0
InSecond rs bs xs e ys = (ws : List Entry) × (xs ≡ rs ++ ws) × (bs ≡ ws ++ e ∷ ys)

split : (rs bs xs : List Entry) (e : Entry) (ys : List Entry) → rs ++ bs ≡ xs ++ e ∷ ys → InFirst rs bs xs e ys ⊎ InSecond rs bs xs e ys
split [] bs xs e ys is = inr (xs, refl, is)
split (r ∷ rs) bs [] e ys is = inl (rs, ap (λ (y : Entry). y ∷ rs) (same_head r e (rs ++ bs) ys is), sym (same_tail r e (rs ++ bs) ys is))
split (r ∷ rs) bs (x ∷ xs) e ys is =
    let h = same_head r x (rs ++ bs) (xs ++ e ∷ ys) is in
    elim (split rs bs xs e ys (same_tail r x (rs ++ bs) (xs ++ e ∷ ys) is)) [
      | inl f ↦ inl (f.0, ap₂ (λ (y : Entry) (zs : List Entry). y ∷ zs) h f.1, f.2)
      | inr s ↦ inr (s.0, ap₂ (λ (y : Entry) (zs : List Entry). y ∷ zs) (sym h) s.1, s.2)
    ]

no_record : {X : Type 0} (ws : List Entry) (e : Entry) (ys : List Entry) → [] ≡ ws ++ e ∷ ys → X
no_record [] e ys is = absurd (let f : [] ≡ e ∷ ys = is in cc)
no_record (w ∷ ws) e ys is = absurd (let f : [] ≡ w ∷ (ws ++ e ∷ ys) = is in cc)

-- ---- its page

-- the records of a page cut at one of them
pub filled_rest : (page start end : ℕ) (xs : List Entry) (e : Entry) (zs : List Entry) → IsFilled page start end (xs ++ e ∷ zs)
    → (e.at.page ≡ page) × IsFilled page (e.at.at + record_size e.undo) end xs × IsFilled page start e.at.at zs
filled_rest page start end [] e zs filled = (filled.0, sym filled.1, filled.2)
filled_rest page start end (x ∷ xs) e zs filled = let r = filled_rest page start x.at.at xs e zs filled.2 in (r.0, (filled.0, filled.1, r.1), r.2)

pub record Found (pages : Pages) (parts : List Part) (xs : List Entry) (e : Entry) (ys : List Entry) : Type 0 where
  pub newer : List Part
  pub part : Part
  pub older : List Part
  pub is : parts ≡ newer ++ part ∷ older
  pub start : ℕ
  pub fills : IsPart pages start part
  pub behind : List Entry
  pub before : List Entry
  pub records : part.records ≡ behind ++ e ∷ before
  pub same_page : e.at.page ≡ part.page
  pub after : IsFilled part.page (e.at.at + record_size e.undo) (end_field pages part.page) behind
  pub filled : IsFilled part.page start e.at.at before
  pub left : records_in newer ++ behind ≡ xs
  pub right : before ++ records_in older ≡ ys

here : (pages : Pages) (start : ℕ) (p : Part) (older : List Part) (xs : List Entry) (e : Entry) (ys zs : List Entry) → IsPart pages start p → p.records ≡ xs ++ e ∷ zs → ys ≡ zs ++ records_in older → Found pages (p ∷ older) xs e ys
here pages start p older xs e ys zs part is rest =
    let r = filled_rest p.page start (end_field pages p.page) xs e zs (subst (IsFilled p.page start (end_field pages p.page)) is part.filled) in
    record { newer = []; part = p; older = older; is = refl; start = start; fills = part; behind = xs; before = zs; records = is; same_page = r.0; after = r.1; filled = r.2; left = refl; right = sym rest }

deeper : (pages : Pages) (p : Part) (older : List Part) (xs : List Entry) (e : Entry) (ys ws : List Entry) → xs ≡ p.records ++ ws → Found pages older ws e ys → Found pages (p ∷ older) xs e ys
deeper pages p older xs e ys ws is f = record {
  newer = p ∷ f.newer;
  part = f.part;
  older = f.older;
  is = ap (λ (ps : List Part). p ∷ ps) f.is;
  start = f.start;
  fills = f.fills;
  behind = f.behind;
  before = f.before;
  records = f.records;
  same_page = f.same_page;
  after = f.after;
  filled = f.filled;
  left = append_assoc p.records (records_in f.newer) f.behind ∙ ap (λ (rs : List Entry). p.records ++ rs) f.left ∙ sym is;
  right = f.right;
}

-- a record of a log lies in one of its parts, those newer and older in and around that part
pub found : (pages : Pages) (first : ℕ) (parts : List Part) (xs : List Entry) (e : Entry) (ys : List Entry) → AreParts pages first parts → records_in parts ≡ xs ++ e ∷ ys → Found pages parts xs e ys
found pages first [] xs e ys are is = absurd are
found pages first (p ∷ []) xs e ys are is = elim (split p.records [] xs e ys is) [
  | inl f ↦ here pages first_start p [] xs e ys f.0 are.1 f.1 f.2
  | inr s ↦ no_record s.0 e ys s.2
]
found pages first (p ∷ q ∷ older) xs e ys are is = elim (split p.records (records_in (q ∷ older)) xs e ys is) [
  | inl f ↦ here pages other_start p (q ∷ older) xs e ys f.0 are.0.part f.1 f.2
  | inr s ↦ deeper pages p (q ∷ older) xs e ys s.0 s.1 (found pages first (q ∷ older) s.0 e ys are.1 s.2)
]

-- ---- places of other records

-- none of the records stands there
abbrev pub AllOff : Address → List Entry → Type 0
AllOff a [] = Unit {0}
AllOff a (r ∷ rs) = (same_address r.at a ≡ false) × AllOff a rs

-- two lists of such
pub off_join : (a : Address) (rs zs : List Entry) → AllOff a rs → AllOff a zs → AllOff a (rs ++ zs)
off_join a [] zs one two = two
off_join a (r ∷ rs) zs one two = (one.0, off_join a rs zs one.1 two)

and_false : (b d : Bool) → d ≡ false → (b && d) ≡ false
and_false true d e = e
and_false false d e = refl

other_page : (r a : Address) → r.page ≢ a.page → same_address r a ≡ false
other_page r a other = ap (λ (b : Bool). b && (r.at == a.at)) (ne_eqb r.page a.page other)

-- another place
pub other_at : (r a : Address) → r.at ≢ a.at → same_address r a ≡ false
other_at r a other = and_false (r.page == a.page) (r.at == a.at) (ne_eqb r.at a.at other)

pub same_here : (a : Address) → same_address a a ≡ true
same_here a = ap₂ (λ (b d : Bool). b && d) (eq-eqb a.page a.page refl) (eq-eqb a.at a.at refl)

-- records from a place on are off what is before it
pub off_above : (a : Address) (page start end : ℕ) (rs : List Entry) → IsFilled page start end rs → a.at < start → AllOff a rs
off_above a page start end [] filled low = tt
off_above a page start end (r ∷ rs) filled low =
    let f = filled_low page start r.at.at rs filled.2 in
    (other_at r.at a (λ e. no (omega (arith, f, low, e))), off_above a page start r.at.at rs filled.2 low)
  where
    no : 1 ≤ 0 → ⊥
    no h = absurd (omega arith)

-- records up to a place are off what isn't before it
pub off_below : (a : Address) (page start end : ℕ) (rs : List Entry) → IsFilled page start end rs → end ≤ a.at → AllOff a rs
off_below a page start end [] filled high = tt
off_below a page start end (r ∷ rs) filled high =
    let s = filled.1 in
    (other_at r.at a (λ e. no (omega (arith, s, high, e))), off_below a page start r.at.at rs filled.2 (omega (arith, s, high)))
  where
    no : 1 ≤ 0 → ⊥
    no h = absurd (omega arith)

on_other : (a : Address) (page start end : ℕ) (rs : List Entry) → IsFilled page start end rs → page ≢ a.page → AllOff a rs
on_other a page start end [] filled other = tt
on_other a page start end (r ∷ rs) filled other = (other_page r.at a (λ e. other (sym filled.0 ∙ e)), on_other a page start r.at.at rs filled.2 other)

-- the records of parts on other pages
off_parts : (pages : Pages) (first : ℕ) (a : Address) (parts : List Part) → AreParts pages first parts → IsNewPage a.page parts → AllOff a (records_in parts)
off_parts pages first a [] are new = tt
off_parts pages first a (p ∷ []) are new = off_join a p.records [] (let part = are.1 in on_other a p.page first_start (end_field pages p.page) p.records part.filled (λ e. new.0 (sym e))) tt
off_parts pages first a (p ∷ q ∷ older) are new =
    off_join a p.records (records_in (q ∷ older)) (let part = are.0.part in on_other a p.page other_start (end_field pages p.page) p.records part.filled (λ e. new.0 (sym e))) (off_parts pages first a (q ∷ older) are.1 new.1)

new_at : (n : ℕ) (newer : List Part) (p : Part) (older : List Part) → IsNewPage n (newer ++ p ∷ older) → n ≢ p.page
new_at n [] p older new = new.0
new_at n (q ∷ newer) p older new = new_at n newer p older new.1

-- those of newer pages
pub off_newer : (pages : Pages) (first : ℕ) (a : Address) (newer : List Part) (p : Part) (older : List Part) → AreParts pages first (newer ++ p ∷ older) → a.page ≡ p.page → AllOff a (records_in newer)
off_newer pages first a [] p older are same = tt
off_newer pages first a (n ∷ []) p older are same =
    off_join a n.records [] (let part = are.0.part in on_other a n.page other_start (end_field pages n.page) n.records part.filled (λ e. are.0.new.0 (e ∙ same))) tt
off_newer pages first a (n ∷ m ∷ newer) p older are same =
    off_join a n.records (records_in (m ∷ newer)) (let part = are.0.part in on_other a n.page other_start (end_field pages n.page) n.records part.filled (λ e. new_at n.page (m ∷ newer) p older are.0.new (e ∙ same)))
    (off_newer pages first a (m ∷ newer) p older are.1 same)

-- the parts from one on
pub parts_from : (pages : Pages) (first : ℕ) (newer : List Part) (p : Part) (older : List Part) → AreParts pages first (newer ++ p ∷ older) → AreParts pages first (p ∷ older)
parts_from pages first [] p older are = are
parts_from pages first (n ∷ []) p older are = are.1
parts_from pages first (n ∷ m ∷ newer) p older are = parts_from pages first (m ∷ newer) p older are.1

-- those of older pages
pub off_older : (pages : Pages) (first : ℕ) (a : Address) (p : Part) (older : List Part) → AreParts pages first (p ∷ older) → a.page ≡ p.page → AllOff a (records_in older)
off_older pages first a p [] are same = tt
off_older pages first a p (q ∷ older) are same = off_parts pages first a (q ∷ older) are.1 (subst (λ (n : ℕ). IsNewPage n (q ∷ older)) (sym same) are.0.new)

-- no other record stands at its place
pub places_off : (pages : Pages) (first : ℕ) (parts : List Part) (xs : List Entry) (e : Entry) (ys : List Entry) → AreParts pages first parts → records_in parts ≡ xs ++ e ∷ ys → AllOff e.at xs × AllOff e.at ys
places_off pages first parts xs e ys are is =
    let f = found pages first parts xs e ys are is in
    let all : AreParts pages first (f.newer ++ f.part ∷ f.older) = subst (AreParts pages first) f.is are in
    let above : e.at.at < e.at.at + record_size e.undo = omega arith in (
      subst (AllOff e.at) f.left (off_join e.at (records_in f.newer) f.behind (off_newer pages first e.at f.newer f.part f.older all f.same_page) (off_above e.at f.part.page (e.at.at + record_size e.undo) (end_field pages f.part.page) f.behind f.after above)),
      subst (AllOff e.at) f.right (off_join e.at f.before (records_in f.older) (off_below e.at f.part.page f.start e.at.at f.before f.filled (omega arith)) (off_older pages first e.at f.part f.older (parts_from pages first f.newer f.part f.older all) f.same_page)),
    )

-- ---- down to a record, and behind it

-- down to a record whose place no newer one has, there are the newer ones and itself
pub down_there : (xs : List Entry) (e : Entry) (ys : List Entry) → AllOff e.at xs → down_to e.at (xs ++ e ∷ ys) ≡ xs ++ e ∷ []
down_there [] e ys off = ap (λ (b : Bool). cond b (e ∷ []) (e ∷ down_to e.at ys)) (same_here e.at)
down_there (x ∷ xs) e ys off = ap (λ (b : Bool). cond b (x ∷ []) (x ∷ down_to e.at (xs ++ e ∷ ys))) off.0 ∙ ap (λ (rs : List Entry). x ∷ rs) (down_there xs e ys off.1)

none_newer : (a : Address) (e : Entry) (ys : List Entry) → AllOff a ys → newer a (e ∷ ys) ≡ None
none_newer a e [] off = refl
none_newer a e (y ∷ ys) off = ap (λ (b : Bool). cond b (Some e.at) (newer a (y ∷ ys))) off.0 ∙ none_newer a y ys off.1

-- the record made behind it is the oldest of the newer ones
pub newer_there : (xs : List Entry) (e : Entry) (ys : List Entry) → AllOff e.at xs → AllOff e.at ys → newer e.at (xs ++ e ∷ ys) ≡ oldest xs
newer_there [] e ys off off' = none_newer e.at e ys off'
newer_there (x ∷ []) e ys off off' = ap (λ (b : Bool). cond b (Some x.at) (newer e.at (e ∷ ys))) (same_here e.at)
newer_there (x ∷ y ∷ xs) e ys off off' = ap (λ (b : Bool). cond b (Some x.at) (newer e.at (y ∷ (xs ++ e ∷ ys)))) off.1.0 ∙ newer_there (y ∷ xs) e ys off.1 off'

-- a list without its last record, and that one
pub record Ends (xs : List Entry) : Type 0 where
  pub front : List Entry
  pub last : Entry
  pub is : xs ≡ front ++ last ∷ []
  pub is_oldest : oldest xs ≡ Some last.at

pub ends : (x : Entry) (xs : List Entry) → Ends (x ∷ xs)
ends x [] = record { front = []; last = x; is = refl; is_oldest = refl }
ends x (y ∷ ys) = let e = ends y ys in record { front = x ∷ e.front; last = e.last; is = ap (λ (rs : List Entry). x ∷ rs) e.is; is_oldest = e.is_oldest }

-- what is due down to the oldest of the newest records are these
pub due_oldest : (xs ys : List Entry) → ((front : List Entry) (f : Entry) → xs ≡ front ++ f ∷ [] → AllOff f.at front) → due (oldest xs) (xs ++ ys) ≡ xs
due_oldest [] ys off = refl
due_oldest (x ∷ xs) ys off =
    let e = ends x xs in
    ap (λ (o : Option Address). due o ((x ∷ xs) ++ ys)) e.is_oldest ∙ ap (λ (rs : List Entry). down_to e.last.at (rs ++ ys)) e.is
    ∙ ap (down_to e.last.at) (append_assoc e.front (e.last ∷ []) ys) ∙ down_there e.front e.last ys (off e.front e.last e.is) ∙ sym e.is
