-- One value's canonical entry.
use Rattle.std.proofs.Common.{◌≡◌, ℕ, ◌+◌, ◌-◌, ◌≤◌, true, false, true≢false, List, ◌∷◌, length, replicate, slice_index, sym, ap, subst, ◌∙◌, arith, cond}
use Rattle.binary_model.specs.Layout.{Form, word, Kind, code_of, is_inlined, number_at}
use Rattle.binary_model.specs.Stands.{IsBytes}
use Rattle.binary_model.specs.Canonical.{Spelling, fill, inlined_bytes, low_bytes}
use Rattle.binary_model.specs.Place.{Holds}
use Rattle.json_binary.specs.Writing.{entry}
use Rattle.json_splice.proofs.HeldLemmas.{joined_held, first_held}
use Rattle.json_splice.proofs.WordLemmas.{number_holds}

-- the canonical entry, and the value behind the entries where it isn't inlined
abbrev pub HasEntry : List ℕ → Form → (type_at place offset : ℕ) → Spelling → Type 0
HasEntry bytes form type_at place offset v = Holds bytes type_at (entry form offset v) × (is_inlined form v.0 ≡ false → Holds bytes place v.1)

module _ (bytes : List ℕ) (form : Form) (k : Kind) (v : Spelling) (type_at place offset : ℕ) (kind : k ≡ v.0) (inside : type_at + 1 + word form ≤ length bytes) (code : slice_index bytes type_at ≡ code_of k) where
  -- of a value that stands in it, and fills it
  pub inlined_entry : (at : ℕ) → is_inlined form k ≡ true → at ≡ type_at + 1 → Holds bytes at v.1
      → Holds bytes (type_at + 1 + length v.1) (replicate (type_at + 1 + word form - (type_at + 1 + length v.1)) (fill v)) → HasEntry bytes form type_at place offset v
  inlined_entry at so here held filled =
      let is : is_inlined form v.0 ≡ true = ap (is_inlined form) (sym kind) ∙ so in
      let left : type_at + 1 + word form - (type_at + 1 + length v.1) ≡ word form - length v.1 = omega arith in
      let word_is : Holds bytes (type_at + 1) (inlined_bytes form v) = joined_held bytes (type_at + 1) v.1 (replicate (word form - length v.1) (fill v)) (subst (λ p. Holds bytes p v.1) here held)
      (subst (λ n. Holds bytes (type_at + 1 + length v.1) (replicate n (fill v))) left filled) in
      let whole = first_held bytes type_at (code_of v.0) (inlined_bytes form v) (omega (arith, inside)) (code ∙ ap code_of kind) word_is in (
        subst (λ b. Holds bytes type_at (code_of v.0 ∷ cond b (inlined_bytes form v) (low_bytes (word form) offset))) (sym is) whole,
        (λ e. absurd (true≢false (sym is ∙ e))),
      )

  -- of one that stands at its offset
  pub offset_entry : (at n : ℕ) → IsBytes bytes → is_inlined form k ≡ false → n ≡ number_at bytes (word form) (type_at + 1) → n ≡ offset → place ≡ at → Holds bytes at v.1 → HasEntry bytes form type_at place offset v
  offset_entry at n octets so number same here held =
      let is : is_inlined form v.0 ≡ false = ap (is_inlined form) (sym kind) ∙ so in
      let word_is : Holds bytes (type_at + 1) (low_bytes (word form) offset) = subst (λ m. Holds bytes (type_at + 1) (low_bytes (word form) m)) (sym number ∙ same) (number_holds bytes (word form) (type_at + 1) octets inside) in
      let whole = first_held bytes type_at (code_of v.0) (low_bytes (word form) offset) (omega (arith, inside)) (code ∙ ap code_of kind) word_is in (
        subst (λ b. Holds bytes type_at (code_of v.0 ∷ cond b (inlined_bytes form v) (low_bytes (word form) offset))) (sym is) whole,
        (λ e. subst (λ p. Holds bytes p v.1) (sym here) held),
      )
