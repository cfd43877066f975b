-- Replies that are told one after another, each after its steps.
use Rattle.std.specs.Prelude.{◌≡◌, ◌≢◌, ◌≤◌, ◌<◌, ◌+◌, ◌==◌, ℕ, false, if◌then◌else◌, List, [], ◌∷◌, ◌++◌, All, length, take, get_or, refl, Option, Some, None}
use Rattle.std.proofs.Common.{sym, ◌∙◌, ap, arith, append_assoc, append-nil}
use Rattle.std.proofs.lemmas.Bool.{ne_eqb}
use Rattle.std.proofs.lemmas.List.Elements.{All-head, All-tail}
use Rattle.mdbox_base.specs.declared.replies.Reply.{Reply}
use Rattle.mdbox_base.specs.declared.script.JournalEntry.{JournalEntry}
use Rattle.std.proofs.lemmas.Option.{get_or_from_slice_get, slice_get-get_or}
use Rattle.request_text.specs.BatchText.{answer_text, batch_text, replies_from, request_steps}
use Rattle.request_text.specs.declared.places.Steps.{Steps}
use Rattle.request_text.specs.Steps.{with_place}
use Rattle.request_text.proofs.BatchLemmas.{replies_rest, steps_other, steps_to}

-- entries of other requests tell nothing of one
others_behind : (r : ℕ) (more xs : List JournalEntry) → All (λ entry. entry.request ≢ r) more → request_steps (xs ++ more) r ≡ request_steps xs r
others_behind r [] xs all = ap (λ (js : List JournalEntry). request_steps js r) (append-nil xs)
others_behind r (e ∷ more) xs all =
    let one : (e.request == r) ≡ false = ne_eqb e.request r (All-head (λ (entry : JournalEntry). entry.request ≢ r) e more all) in
    ap (λ (js : List JournalEntry). request_steps js r) (sym (append_assoc xs (e ∷ []) more))
    ∙ (others_behind r more (xs ++ e ∷ []) (All-tail (λ (entry : JournalEntry). entry.request ≢ r) e more all) ∙ steps_other xs e r one)

-- a journal of other requests has none of its steps
pub none_told : (r : ℕ) (xs : List JournalEntry) → All (λ entry. entry.request ≢ r) xs → request_steps xs r ≡ record { whole = None; copied = None; removed = None }
none_told r xs all = others_behind r xs [] all

-- one entry more
pub steps_on : (j : List JournalEntry) (at : ℕ) (e d : JournalEntry) (r : ℕ) (steps now : Steps) → at < length j → e ≡ get_or j at d → steps ≡ request_steps (take at j) r → now ≡ (if e.request == r then with_place e.half (at + 1) steps else steps) → now ≡ request_steps (take (at + 1) j) r
steps_on j at e d r steps now lt is same step =
    let own : get_or j at d ≡ get_or j at e = get_or_from_slice_get j at (get_or j at e) d (slice_get-get_or j at e lt) in
    step ∙ (ap (λ (s : Steps). if e.request == r then with_place e.half (at + 1) s else s) same ∙ steps_to j at e r lt (is ∙ own))

texts_same : (a b : List JournalEntry) (n : ℕ) (replies : List (Option Reply)) → ((r : ℕ) → n ≤ r → r < n + length replies → request_steps a r ≡ request_steps b r) → replies_from a n replies ≡ replies_from b n replies
texts_same a b n [] same = refl
texts_same a b n (x ∷ replies) same =
    let rest = texts_same a b (n + 1) replies (λ r low high. same r (omega (arith, low)) (omega (arith, high))) in
    ap (λ (s : Steps). answer_text (n + 1) s x ++ replies_from a (n + 1) replies) (same n (omega arith) (omega arith)) ∙ ap (λ (t : List ℕ). answer_text (n + 1) (request_steps b n) x ++ t) rest

apart_from : (r m : ℕ) (more : List JournalEntry) → r < m → All (λ entry. entry.request ≡ m) more → All (λ entry. entry.request ≢ r) more
apart_from r m more less all k d within e = let is = all k d within in omega (arith, less, is, e)

pub told_in_order : (journal more : List JournalEntry) (replies : List (Option Reply)) (given : Reply) → All (λ entry. entry.request < length replies) journal → All (λ entry. entry.request ≡ length replies) more
    → batch_text (journal ++ more) (replies ++ Some given ∷ []) ≡ batch_text journal replies ++ answer_text (length replies + 1) (request_steps (journal ++ more) (length replies)) (Some given)
told_in_order journal more replies given old own =
    replies_rest (journal ++ more) 0 replies (Some given ∷ [])
    ∙ (ap (λ (t : List ℕ). t ++ replies_from (journal ++ more) (0 + length replies) (Some given ∷ [])) (texts_same (journal ++ more) journal 0 replies (λ r low high. others_behind r more journal (apart_from r (length replies) more (omega (arith, high)) own)))
    ∙ ap (λ (t : List ℕ). batch_text journal replies ++ t) (last (0 + length replies) (let z : 0 + length replies ≡ length replies = omega arith in z)))
  where
    last : (n : ℕ) → n ≡ length replies → replies_from (journal ++ more) n (Some given ∷ []) ≡ answer_text (length replies + 1) (request_steps (journal ++ more) (length replies)) (Some given)
    last n is = append-nil (answer_text (n + 1) (request_steps (journal ++ more) n) (Some given)) ∙ ap (λ (k : ℕ). answer_text (k + 1) (request_steps (journal ++ more) k) (Some given)) is
