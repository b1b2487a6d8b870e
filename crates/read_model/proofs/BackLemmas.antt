-- The three laws on lists of records with old bytes, and the one from which a read under way is kept.
use Rattle.std.proofs.Common.{◌≡◌, ℕ, List, [], ◌∷◌, length, refl, sym, ap, ap₂, ◌∙◌}
use Rattle.store_data.specs.Pieces.{Part}
use Rattle.store_data.specs.Store.{Run}
use Rattle.store_model.specs.Runs.{all_laid}
use Rattle.read_model.specs.Patches.{Entry, runs, back, AreAtSamePlaces, AreMadeOn}
use Rattle.read_model.proofs.PatchLemmas.{bytes_under, laid_bytes, laid_page, laid_at, bytes_again, bytes_covered, bytes_length, IsMix, mix_under, mix_same, mix_standing}

-- parts of the same page, the same place in it and the same bytes are equal
pub part_equal : (a b : Part) → a.page ≡ b.page → a.at ≡ b.at → a.bytes ≡ b.bytes → a ≡ b
part_equal a b p q r = rw (p, q, r) refl

-- ---- the bytes of a part, behind a list of records

bytes_back : List Entry → ℕ → ℕ → List ℕ → List ℕ
bytes_back [] page at xs = xs
bytes_back (e ∷ es) page at xs = bytes_back es page at (bytes_under (runs e) page at xs)

pub back_page : (es : List Entry) (part : Part) → (back es part).page ≡ part.page
back_page [] part = refl
back_page (e ∷ es) part = back_page es (all_laid (runs e) part) ∙ laid_page (runs e) part

pub back_at : (es : List Entry) (part : Part) → (back es part).at ≡ part.at
back_at [] part = refl
back_at (e ∷ es) part = back_at es (all_laid (runs e) part) ∙ laid_at (runs e) part

back_bytes : (es : List Entry) (part : Part) → (back es part).bytes ≡ bytes_back es part.page part.at part.bytes
unfolding bytes_back
back_bytes [] part = refl
back_bytes (e ∷ es) part = back_bytes es (all_laid (runs e) part)
    ∙ ap₂ (λ (n k : ℕ). bytes_back es n k (all_laid (runs e) part).bytes) (laid_page (runs e) part) (laid_at (runs e) part)
    ∙ ap (bytes_back es part.page part.at) (laid_bytes (runs e) part)

back_length : (es : List Entry) (page at : ℕ) (xs : List ℕ) → length (bytes_back es page at xs) ≡ length xs
unfolding bytes_back
back_length [] page at xs = refl
back_length (e ∷ es) page at xs = back_length es page at (bytes_under (runs e) page at xs) ∙ bytes_length (runs e) page at xs

mix_back : (es : List Entry) (page at : ℕ) (us bs cs : List ℕ) → IsMix us bs cs → IsMix (bytes_back es page at us) (bytes_back es page at bs) (bytes_back es page at cs)
unfolding bytes_back
mix_back [] page at us bs cs mix = mix
mix_back (e ∷ es) page at us bs cs mix = mix_back es page at _ _ _ (mix_under (runs e) page at us bs cs mix)

bytes_kept : (es : List Entry) (ps : List Run) (page at : ℕ) (cs bs ss : List ℕ) → bytes_back es page at cs ≡ ss → bytes_back es page at bs ≡ ss → bytes_under ps page at bs ≡ bs
    → bytes_back es page at (bytes_under ps page at cs) ≡ ss
bytes_kept es ps page at cs bs ss copied now stand =
    let len : length cs ≡ length bs = sym (back_length es page at cs) ∙ ap length (copied ∙ sym now) ∙ back_length es page at bs in
    mix_same _ _ _ (copied ∙ sym now) (mix_back es page at cs bs _ (mix_standing ps page at cs bs len stand)) ∙ now

-- ---- parts

-- what is laid twice is laid
pub laid_again : (ps : List Run) (part : Part) → all_laid ps (all_laid ps part) ≡ all_laid ps part
laid_again ps part = part_equal _ _ (laid_page ps (all_laid ps part)) (laid_at ps (all_laid ps part))
    (laid_bytes ps (all_laid ps part)
    ∙ ap₂ (λ (n k : ℕ). bytes_under ps n k (all_laid ps part).bytes) (laid_page ps part) (laid_at ps part)
    ∙ ap (bytes_under ps part.page part.at) (laid_bytes ps part)
    ∙ bytes_again ps part.page part.at part.bytes
    ∙ sym (laid_bytes ps part))

-- old bytes lead back over new ones at the same places
pub laid_over : (ps qs : List Run) (part : Part) → AreAtSamePlaces ps qs → all_laid ps (all_laid qs part) ≡ all_laid ps part
laid_over ps qs part same = part_equal _ _
    (laid_page ps (all_laid qs part) ∙ laid_page qs part ∙ sym (laid_page ps part))
    (laid_at ps (all_laid qs part) ∙ laid_at qs part ∙ sym (laid_at ps part))
    (laid_bytes ps (all_laid qs part)
    ∙ ap₂ (λ (n k : ℕ). bytes_under ps n k (all_laid qs part).bytes) (laid_page qs part) (laid_at qs part)
    ∙ ap (bytes_under ps part.page part.at) (laid_bytes qs part)
    ∙ bytes_covered ps qs part.page part.at part.bytes same
    ∙ sym (laid_bytes ps part))

-- what is copied and what stands there lead to the same; so does what is copied with old bytes that stand there put in
pub kept_by_record : (es : List Entry) (ps : List Run) (c p s : Part) → back es c ≡ s → back es p ≡ s → all_laid ps p ≡ p → back es (all_laid ps c) ≡ s
kept_by_record es ps c p s copied now stand =
    let page : p.page ≡ c.page = sym (back_page es p) ∙ ap (λ (r : Part). r.page) (now ∙ sym copied) ∙ back_page es c in
    let at : p.at ≡ c.at = sym (back_at es p) ∙ ap (λ (r : Part). r.at) (now ∙ sym copied) ∙ back_at es c in
    part_equal _ _
    (back_page es (all_laid ps c) ∙ laid_page ps c ∙ sym (back_page es c) ∙ ap (λ (r : Part). r.page) copied)
    (back_at es (all_laid ps c) ∙ laid_at ps c ∙ sym (back_at es c) ∙ ap (λ (r : Part). r.at) copied)
    (back_bytes es (all_laid ps c)
    ∙ ap₂ (λ (n k : ℕ). bytes_back es n k (all_laid ps c).bytes) (laid_page ps c) (laid_at ps c)
    ∙ ap (bytes_back es c.page c.at) (laid_bytes ps c)
    ∙ bytes_kept es ps c.page c.at c.bytes p.bytes s.bytes
    (sym (back_bytes es c) ∙ ap (λ (r : Part). r.bytes) copied)
    (ap₂ (λ (n k : ℕ). bytes_back es n k p.bytes) (sym page) (sym at) ∙ sym (back_bytes es p) ∙ ap (λ (r : Part). r.bytes) now)
    (ap₂ (λ (n k : ℕ). bytes_under ps n k p.bytes) (sym page) (sym at) ∙ sym (laid_bytes ps p) ∙ ap (λ (r : Part). r.bytes) stand))

-- ---- the laws

-- what stands there now leads back to what was copied
pub now_leads_back : (es : List Entry) (copied now : Part) → AreMadeOn copied es now → back es now ≡ copied
now_leads_back [] copied now made = made
now_leads_back (e ∷ es) copied now made = ap (back es) made.2 ∙ now_leads_back es copied made.0 made.1

-- and so does what was copied
pub copied_leads_back : (es : List Entry) (copied now : Part) → AreMadeOn copied es now → back es copied ≡ copied
copied_leads_back [] copied now made = refl
copied_leads_back (e ∷ es) copied now made =
    kept_by_record es (runs e) copied made.0 copied (copied_leads_back es copied made.0 made.1) (now_leads_back es copied made.0 made.1)
    (ap (all_laid (runs e)) (sym made.2) ∙ laid_again (runs e) now ∙ made.2)
