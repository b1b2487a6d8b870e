-- Of the rows that a reader meets, the one that it sees has the length of its bytes.
use Rattle.std.proofs.Common.{◌≡◌, ℕ, Bool, true, false, true≢false, List, [], ◌∷◌, ◌++◌, length, map, Option, Some, None, refl, sym, ap, subst, ◌∙◌, if◌then◌else◌}
use Rattle.journal_model.specs.Documents.{Kept as Stored}
use Rattle.journal_model.specs.Journal.{Script, Entry}
use Rattle.journal_model.specs.History.{Owner, session, commit, Made, History, is_sessions, is_among, newest_in, one_made}
use Rattle.store_data.specs.Store.{Row, Lob, Record}
use Rattle.store_model.specs.History.{Past, Change, seen, content_behind, history_behind}
use Rattle.read_model.specs.Patches.{Entry as Undo}
use Rattle.read_model.specs.Document.{Sees, IsSeen}
use Rattle.read_model.specs.OfStore.{entry}
use Rattle.kept_model.specs.Rows.{IsMeasured, AreNamed, AreKnown, AreKnownBehind, AreKnownOut}
use Rattle.kept_model.specs.Stored.{Front, whole, begun, undone, IsAhead, AreShown}
use Rattle.kept_model.specs.Views.{AllPast}

-- the first row that is seen is measured
abbrev pub SeenMeasured : (ℕ → Bool) → List Past → Type 0
SeenMeasured f [] = Unit {0}
SeenMeasured f (p ∷ ps) = (f p.trx ≡ true → IsMeasured p) × (f p.trx ≡ false → SeenMeasured f ps)

-- it depends on what is seen of these rows alone
pub measured_alike : (f g : ℕ → Bool) (ps : List Past) → AllPast (λ x. f x ≡ g x) ps → SeenMeasured g ps → SeenMeasured f ps
measured_alike f g [] all m = tt
measured_alike f g (p ∷ ps) all m = ((λ is. m.0 (sym all.0 ∙ is)), λ unseen. measured_alike f g ps all.1 (m.1 (sym all.0 ∙ unseen)))

module _ (names : Owner → Option ℕ) (old : ℕ → Bool) (first : ℕ) (f : ℕ → Bool) (g : Owner → Bool) (base : Option Stored)
    (same : (w : Owner) (x : ℕ) → names w ≡ Some x → f x ≡ g w) (most : (w : Owner) → is_among first w ≡ true → g w ≡ true) where
  below : (w : Owner) → g w ≡ false → (x : Bool) → is_among first w ≡ x → x ≡ false
  below w unseen true e = absurd (true≢false (sym (most w e) ∙ unseen))
  below w unseen false e = refl

  pub measured_known : (ms : List Made) (ps : List Past) → AreNamed names old ms ps → AreKnown first base ms ps → SeenMeasured f ps
  measured_known [] [] named known = tt
  measured_known [] (p ∷ []) named known = ((λ is. known.1), λ unseen. tt)
  measured_known [] (p ∷ q ∷ ps) named known = absurd named
  measured_known (m ∷ ms) [] named known = tt
  measured_known (m ∷ ms) (p ∷ ps) named known =
      ((λ is. known.0.1), λ unseen. measured_known ms ps named.1 (known.1 (below m.owner (sym (same m.owner p.trx named.0) ∙ unseen) (is_among first m.owner) refl)))

  -- the newest row isn't seen
  measured_behind : (m : Made) (ms : List Made) (ps : List Past) → g m.owner ≡ false → AreNamed names old (m ∷ ms) ps → AreKnownBehind first base (m ∷ ms) ps → SeenMeasured f ps
  measured_behind m ms [] hidden named known = tt
  measured_behind m ms (p ∷ ps) hidden named known = (
    (λ is. absurd (true≢false (sym is ∙ same m.owner p.trx named.0 ∙ hidden))),
    λ unseen. measured_known ms ps named.1 (known (below m.owner hidden (is_among first m.owner) refl)),
  )

  module _ (hidden : (t : ℕ) → g (session t) ≡ false) (script : Script) (past : List Entry) (h : History) where
    pub measured_front : (fr : Front) (ahead left : List Made) (ps : List Past) → IsAhead script past h fr ahead → AreNamed names old (ahead ++ left) ps
        → AreShown fr first base (ahead ++ left) ps → SeenMeasured f ps
    measured_front whole ahead left ps is named known = measured_known (ahead ++ left) ps named known
    measured_front (begun t) ahead left ps is named known =
        measured_behind (one_made t is.0 (newest_in t h)) left ps (hidden t)
        (subst (λ (a : List Made). AreNamed names old (a ++ left) ps) is.2 named) (subst (λ (a : List Made). AreKnownBehind first base (a ++ left) ps) is.2 known)
    measured_front (undone t) ahead left ps is named known = by_left (ahead ++ left) named known
      where
        by_owner : (m : Made) (ms : List Made) (w : Owner) → m.owner ≡ w → AreNamed names old (m ∷ ms) ps → AreKnownOut t first base (m ∷ ms) ps → SeenMeasured f ps
        by_owner m ms (commit c) e named known = measured_known (m ∷ ms) ps named (known.0 (ap (is_sessions t) e))
        by_owner m ms (session u) e named known = measured_behind m ms ps (ap g e ∙ hidden u) named known.1

        by_left : (ms : List Made) → AreNamed names old ms ps → AreKnownOut t first base ms ps → SeenMeasured f ps
        by_left [] named known = measured_known [] ps named known
        by_left (m ∷ ms) named known = by_owner m ms m.owner refl named known

-- ---- the row that a view sees

-- the row that records lead to, down to the first that is seen, has the length of what is seen
pub visible_length : (sees : Sees) (later : List Record) (lobs : List Lob) (row : Row) (cs : List Change) → SeenMeasured sees (history_behind later lobs row cs)
    → (above older : List Undo) (v : Row) → map entry cs ≡ above ++ older → IsSeen sees row above v
    → (bytes : List ℕ) → seen sees (history_behind later lobs row cs) ≡ Some bytes → v.lob.length ≡ length bytes
visible_length sees later lobs row [] m [] older v is leads bytes shown = here
  where
    sees_row : sees row.trx ≡ true
    sees_row = ap (λ (r : Row). sees r.trx) leads.0 ∙ leads.1

    here : v.lob.length ≡ length bytes
    here = ap (λ (r : Row). r.lob.length) (sym leads.0)
        ∙ m.0 sees_row bytes (sym (ap (λ (b : Bool). if b then content_behind later lobs row else None) sees_row) ∙ shown)
visible_length sees later lobs row [] m (e ∷ es) older v is leads bytes shown = absurd (cc is)
visible_length sees later lobs row (c ∷ cs) m [] older v is leads bytes shown = here
  where
    sees_row : sees row.trx ≡ true
    sees_row = ap (λ (r : Row). sees r.trx) leads.0 ∙ leads.1

    here : v.lob.length ≡ length bytes
    here = ap (λ (r : Row). r.lob.length) (sym leads.0)
        ∙ m.0 sees_row bytes (sym (ap (λ (b : Bool). if b then content_behind later lobs row else seen sees (history_behind (later ++ c.undo ∷ []) lobs c.undo.before cs)) sees_row) ∙ shown)
visible_length sees later lobs row (c ∷ cs) m (e ∷ es) older v is leads bytes shown =
    let same : entry c ≡ e = cc is in
    visible_length sees (later ++ c.undo ∷ []) lobs c.undo.before cs (m.1 leads.0) es older v (cc is)
    (subst (λ (x : Undo). IsSeen sees x.1.before es v) (sym same) leads.2) bytes
    (sym (ap (λ (b : Bool). if b then content_behind later lobs row else seen sees (history_behind (later ++ c.undo ∷ []) lobs c.undo.before cs)) leads.0) ∙ shown)
