-- The data that a printed tree is read as, and the tree that this data is.
use Rattle.std.proofs.Common.{◌≡◌, ℕ, ◌≤◌, ℤ, pos, negsuc, Bool, true, false, ◌||◌, List, length, nat_lt, refl, sym, ap, ◌∙◌, arith, Ordering, Less, Equal, Greater, is_eq, true≢false, nat_cmp}
use Rattle.std.specs.Cmp.Lexicographic.{slice_cmp}
use Rattle.std.specs.Ordering.{match_ordering}
use Rattle.std.proofs.lemmas.Bool.Decides.{nat_tests}
use Rattle.serde_json.specs.Data as json_data
use Rattle.serde_json.specs.Data.{Data, Num}
use Rattle.serde_json.specs.Written.{has_float, items_have_float, members_have_float}
use Rattle.tree_model.specs.Tree.{Tree, null, boolean, number, text, array, object, Trees, no_trees, tree, Members, no_members, member, member_list, put, key_cmp, AreMembers, max_key_bytes, IsTree, AreTrees, HoldTrees}
use Rattle.tree_model.specs.Text.{of_data, of_items, of_members, has_long_key, items_have_long_key, members_have_long_key}
use Rattle.tree_model.proofs.KeyOrder.{itself, turned, same_key, swap_put, Above, Rising, rising_from, put_members, put_members-itself}

-- a whole number as a number of JSON's data
abbrev pub num_of : ℤ → Num
num_of (pos n) = json_data.unsigned n
num_of (negsuc n) = json_data.negative (negsuc n)

-- the members stand in the order of their bytes there
abbrev mutual
  pub data_of : Tree → Data
  data_of null = json_data.null
  data_of (boolean b) = json_data.boolean b
  data_of (number z) = json_data.number (num_of z)
  data_of (text s) = json_data.string s
  data_of (array ts) = json_data.array (items_of ts)
  data_of (object ms) = json_data.object (members_of ms json_data.no_members)

  -- values as the items of data
  pub items_of : Trees → json_data.Items
  items_of no_trees = json_data.no_items
  items_of (tree t ts) = json_data.item (data_of t) (items_of ts)

  -- members put behind those that data has
  pub members_of : Members → json_data.Members → json_data.Members
  members_of no_members found = found
  members_of (member k t ms) found = members_of ms (json_data.put k (data_of t) found)

-- ---- the tree of it

-- no member of the data has the key
abbrev Apart : List ℕ → json_data.Members → Type 0
Apart k json_data.no_members = Unit {0}
Apart k (json_data.member l d ds) = (is_eq (key_cmp k l) ≡ false) × Apart k ds

apart_back : (k l : List ℕ) → is_eq (key_cmp k l) ≡ false → is_eq (key_cmp l k) ≡ false
apart_back k l a = go (key_cmp k l) refl a
  where
    go : (o : Ordering) → key_cmp k l ≡ o → is_eq o ≡ false → is_eq (key_cmp l k) ≡ false
    go Less e h = ap is_eq (turned k l Less e)
    go Equal e h = absurd (true≢false h)
    go Greater e h = ap is_eq (turned k l Greater e)

swap_all : (ds : json_data.Members) (k : List ℕ) (t : Tree) (found : Members) → Apart k ds → of_members ds (put k t found) ≡ put k t (of_members ds found)
swap_all json_data.no_members k t found apart = refl
swap_all (json_data.member l d ds) k t found apart =
    ap (of_members ds) (swap_put l k (of_data d) t found (apart_back k l apart.0)) ∙ swap_all ds k t (put l (of_data d) found) apart.1

after_put : (ds : json_data.Members) (k : List ℕ) (d : Data) (found : Members) → Apart k ds → of_members (json_data.put k d ds) found ≡ of_members ds (put k (of_data d) found)
after_put json_data.no_members k d found apart = refl
after_put (json_data.member l e ds) k d found apart = go (slice_cmp nat_cmp k l) refl (after_put ds k d (put l (of_data e) found) apart.1)
  where
    go : (o : Ordering) → slice_cmp nat_cmp k l ≡ o → of_members (json_data.put k d ds) (put l (of_data e) found) ≡ of_members ds (put k (of_data d) (put l (of_data e) found))
        → of_members (match_ordering o (json_data.member k d (json_data.member l e ds)) (json_data.member l d ds) (json_data.member l e (json_data.put k d ds))) found
        ≡ of_members (json_data.member l e ds) (put k (of_data d) found)
    go Less h rest = refl
    go Equal h rest = absurd (true≢false (sym (ap is_eq (ap (λ x. key_cmp x l) (same_key k l h) ∙ itself l)) ∙ apart.0))
    go Greater h rest = rest ∙ ap (of_members ds) (swap_put k l (of_data d) (of_data e) found apart.0)

apart_put : (ds : json_data.Members) (k l : List ℕ) (d : Data) → Apart k ds → is_eq (key_cmp k l) ≡ false → Apart k (json_data.put l d ds)
apart_put json_data.no_members k l d apart a = (a, tt)
apart_put (json_data.member m e ds) k l d apart a = go (slice_cmp nat_cmp l m) (apart_put ds k l d apart.1 a)
  where
    go : (o : Ordering) → Apart k (json_data.put l d ds) → Apart k (match_ordering o (json_data.member l d (json_data.member m e ds)) (json_data.member m d ds) (json_data.member m e (json_data.put l d ds)))
    go Less more = (a, apart)
    go Equal more = apart
    go Greater more = (apart.0, more)

abbrev AllApart : Members → json_data.Members → Type 0
AllApart no_members ds = Unit {0}
AllApart (member k t ms) ds = Apart k ds × AllApart ms ds

all_apart_put : (ms : Members) (ds : json_data.Members) (l : List ℕ) (d : Data) → Above l ms → AllApart ms ds → AllApart ms (json_data.put l d ds)
all_apart_put no_members ds l d up apart = tt
all_apart_put (member k t ms) ds l d up apart = (apart_put ds k l d apart.0 (ap is_eq (turned l k Less up.0)), all_apart_put ms ds l d up.1 apart.1)

mutual
  -- a tree made data and made a tree again is that tree
  pub of_data-data_of : (t : Tree) → IsTree t → of_data (data_of t) ≡ t
  of_data-data_of null is = refl
  of_data-data_of (boolean b) is = refl
  of_data-data_of (number (pos n)) is = refl
  of_data-data_of (number (negsuc n)) is = refl
  of_data-data_of (text s) is = refl
  of_data-data_of (array ts) is = ap array (of_items-items_of ts is)
  of_data-data_of (object ms) is =
      let up : Rising ms = rising_from ms is.0 in
      ap object (of_members-members_of ms json_data.no_members no_members up (none ms) is.1 ∙ put_members-itself ms up)

  of_items-items_of : (ts : Trees) → AreTrees ts → of_items (items_of ts) ≡ ts
  of_items-items_of no_trees are = refl
  of_items-items_of (tree t ts) are = λ i. tree (of_data-data_of t are.0 i) (of_items-items_of ts are.1 i)

  of_members-members_of : (ms : Members) (ds : json_data.Members) (found : Members) → Rising ms → AllApart ms ds → HoldTrees ms → of_members (members_of ms ds) found ≡ put_members ms (of_members ds found)
  of_members-members_of no_members ds found up apart hold = refl
  of_members-members_of (member k t ms) ds found up apart hold =
      of_members-members_of ms (json_data.put k (data_of t) ds) found up.1 (all_apart_put ms ds k (data_of t) up.0 apart.1) hold.1
      ∙ ap (put_members ms) (after_put ds k (data_of t) found apart.0 ∙ swap_all ds k (of_data (data_of t)) found apart.0 ∙ ap (λ u. put k u (of_members ds found)) (of_data-data_of t hold.0))

  none : (ms : Members) → AllApart ms json_data.no_members
  none no_members = tt
  none (member k t ms) = (tt, none ms)

-- ---- it has no float and no long key

neither : (a b : Bool) → a ≡ false → b ≡ false → a || b ≡ false
neither a b e f = rw (e, f) refl

both : (a b : Bool) → a || b ≡ false → (a ≡ false) × (b ≡ false)
both true b e = absurd (true≢false e)
both false b e = (refl, e)

float_put : (ds : json_data.Members) (k : List ℕ) (d : Data) → has_float d ≡ false → members_have_float ds ≡ false → members_have_float (json_data.put k d ds) ≡ false
float_put json_data.no_members k d e h = neither (has_float d) false e refl
float_put (json_data.member l f ds) k d e h = go (slice_cmp nat_cmp k l) (both (has_float f) (members_have_float ds) h) (float_put ds k d e)
  where
    go : (o : Ordering) → (has_float f ≡ false) × (members_have_float ds ≡ false) → (members_have_float ds ≡ false → members_have_float (json_data.put k d ds) ≡ false)
        → members_have_float (match_ordering o (json_data.member k d (json_data.member l f ds)) (json_data.member l d ds) (json_data.member l f (json_data.put k d ds))) ≡ false
    go Less g more = rw (e, g.0) g.1
    go Equal g more = rw e g.1
    go Greater g more = rw g.0 (more g.1)

mutual
  -- the data of a tree has no float
  pub has_float-data_of : (t : Tree) → has_float (data_of t) ≡ false
  has_float-data_of null = refl
  has_float-data_of (boolean b) = refl
  has_float-data_of (number (pos n)) = refl
  has_float-data_of (number (negsuc n)) = refl
  has_float-data_of (text s) = refl
  has_float-data_of (array ts) = items_have_float-items_of ts
  has_float-data_of (object ms) = members_have_float-members_of ms json_data.no_members refl

  items_have_float-items_of : (ts : Trees) → items_have_float (items_of ts) ≡ false
  items_have_float-items_of no_trees = refl
  items_have_float-items_of (tree t ts) = neither (has_float (data_of t)) (items_have_float (items_of ts)) (has_float-data_of t) (items_have_float-items_of ts)

  members_have_float-members_of : (ms : Members) (ds : json_data.Members) → members_have_float ds ≡ false → members_have_float (members_of ms ds) ≡ false
  members_have_float-members_of no_members ds h = h
  members_have_float-members_of (member k t ms) ds h = members_have_float-members_of ms (json_data.put k (data_of t) ds) (float_put ds k (data_of t) (has_float-data_of t) h)

long_put : (ds : json_data.Members) (k : List ℕ) (d : Data) → nat_lt max_key_bytes (length k) ≡ false → has_long_key d ≡ false → members_have_long_key ds ≡ false → members_have_long_key (json_data.put k d ds) ≡ false
long_put json_data.no_members k d s e h = rw (s, e) refl
long_put (json_data.member l f ds) k d s e h = go (slice_cmp nat_cmp k l) (both (nat_lt max_key_bytes (length l)) (has_long_key f || members_have_long_key ds) h) (long_put ds k d s e)
  where
    go : (o : Ordering) → (nat_lt max_key_bytes (length l) ≡ false) × (has_long_key f || members_have_long_key ds ≡ false) → (members_have_long_key ds ≡ false → members_have_long_key (json_data.put k d ds) ≡ false)
        → members_have_long_key (match_ordering o (json_data.member k d (json_data.member l f ds)) (json_data.member l d ds) (json_data.member l f (json_data.put k d ds))) ≡ false
    go Less g more = rw (s, e, g.0) g.1
    go Equal g more = rw (g.0, e) (both (has_long_key f) (members_have_long_key ds) g.1).1
    go Greater g more = let parts = both (has_long_key f) (members_have_long_key ds) g.1 in rw (g.0, parts.0) (more parts.1)

mutual
  -- and no key that is too long
  pub has_long_key-data_of : (t : Tree) → IsTree t → has_long_key (data_of t) ≡ false
  has_long_key-data_of null is = refl
  has_long_key-data_of (boolean b) is = refl
  has_long_key-data_of (number (pos n)) is = refl
  has_long_key-data_of (number (negsuc n)) is = refl
  has_long_key-data_of (text s) is = refl
  has_long_key-data_of (array ts) is = items_have_long_key-items_of ts is
  has_long_key-data_of (object ms) is = members_have_long_key-members_of ms json_data.no_members is.0 is.1 refl

  items_have_long_key-items_of : (ts : Trees) → AreTrees ts → items_have_long_key (items_of ts) ≡ false
  items_have_long_key-items_of no_trees are = refl
  items_have_long_key-items_of (tree t ts) are = neither (has_long_key (data_of t)) (items_have_long_key (items_of ts)) (has_long_key-data_of t are.0) (items_have_long_key-items_of ts are.1)

  members_have_long_key-members_of : (ms : Members) (ds : json_data.Members) → AreMembers (member_list ms) → HoldTrees ms → members_have_long_key ds ≡ false → members_have_long_key (members_of ms ds) ≡ false
  members_have_long_key-members_of no_members ds are hold h = h
  members_have_long_key-members_of (member k t ms) ds are hold h =
      members_have_long_key-members_of ms (json_data.put k (data_of t) ds) (rest_are k t ms are) hold.1 (long_put ds k (data_of t) (short_first k t ms are) (has_long_key-data_of t hold.0) h)

  rest_are : (k : List ℕ) (t : Tree) (ms : Members) → AreMembers (member_list (member k t ms)) → AreMembers (member_list ms)
  rest_are k t no_members are = tt
  rest_are k t (member l u ms) are = are.2

  short_first : (k : List ℕ) (t : Tree) (ms : Members) → AreMembers (member_list (member k t ms)) → nat_lt max_key_bytes (length k) ≡ false
  short_first k t no_members are = let short : length k ≤ max_key_bytes = are.0 in grind (arith, nat_tests, short)
  short_first k t (member l u ms) are = let short : length k ≤ max_key_bytes = are.0.0 in grind (arith, nat_tests, short)
