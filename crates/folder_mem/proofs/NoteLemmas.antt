-- One change more.
use Rattle.std.proofs.Common.{◌≡◌, ℕ, ◌+◌, ◌<◌, ◌≤◌, List, [], ◌∷◌, ◌++◌, length, take, drop, Some, refl, sym, ◌∙◌, ap, get_or}
use Rattle.std.proofs.lemmas.List.{take_more, take-append-le, take_all, take-append-drop, drop-append-le, drop_all}
use Rattle.folder_model.specs.System.{System}
use Rattle.folder_model.specs.Calls.{done_by}
use Rattle.folder_mem.specs.declared.note.Change.{Change}
use Rattle.folder_mem.specs.Notes.{changes_to, empty_system, replayed_from, system_after}
use Rattle.folder_mem.specs.Seen.{modelled_by, pasts_from, past_by}

replayed-push : (changes : List Change) (change : Change) (s : System) → replayed_from (changes ++ change ∷ []) s ≡ changes_to change (replayed_from changes s)
replayed-push [] change s = refl
replayed-push (first ∷ changes) change s = replayed-push changes change (changes_to first s)

pub system-push : (changes : List Change) (change : Change) → system_after (changes ++ change ∷ []) ≡ changes_to change (system_after changes)
unfolding system_after
system-push changes change = replayed-push changes change empty_system

pub system-next : (changes : List Change) (i : ℕ) (change : Change) → i < length changes → change ≡ get_or changes i change
    → system_after (take (i + 1) changes) ≡ changes_to change (system_after (take i changes))
system-next changes i change below is =
    ap system_after (take_more changes i change below ∙ ap (λ c. take i changes ++ c ∷ []) (sym is)) ∙ system-push (take i changes) change

pub system-none : system_after [] ≡ empty_system
unfolding system_after
system-none = refl

pub model-push : (from : ℕ) (changes : List Change) (change : Change) → from ≤ length changes
    → Some (modelled_by from (changes ++ change ∷ [])) ≡ done_by (changes_to change) (Some (modelled_by from changes))
model-push from changes change within =
    let start : take from (changes ++ change ∷ []) ≡ take from changes = take-append-le from changes (change ∷ []) within in
    ap (λ l. Some (record { start = system_after l; now = system_after (changes ++ change ∷ []) })) start
    ∙ ap (λ s. Some (record { start = system_after (take from changes); now = s })) (system-push changes change)

-- all changes are before the start
pub model-whole : (from : ℕ) (changes : List Change) → length changes ≤ from → Some (modelled_by from changes) ≡ Some (record { start = system_after changes; now = system_after changes })
model-whole from changes past = ap (λ l. Some (record { start = system_after l; now = system_after changes })) (take_all from changes past)

pasts-push : (changes : List Change) (change : Change) (s : System) (past : List System)
    → pasts_from (changes ++ change ∷ []) s past ≡ replayed_from changes s ∷ pasts_from changes s past
pasts-push [] change s past = refl
pasts-push (first ∷ changes) change s past = pasts-push changes change (changes_to first s) (s ∷ past)

replayed-append : (first later : List Change) (s : System) → replayed_from (first ++ later) s ≡ replayed_from later (replayed_from first s)
replayed-append [] later s = refl
replayed-append (change ∷ first) later s = replayed-append first later (changes_to change s)

after-parts : (from : ℕ) (changes : List Change) → replayed_from (drop from changes) (system_after (take from changes)) ≡ system_after changes
unfolding system_after
after-parts from changes =
    sym (replayed-append (take from changes) (drop from changes) empty_system) ∙ ap (λ l. replayed_from l empty_system) (take-append-drop from changes)

-- one change more
pub past-push : (from : ℕ) (changes : List Change) (change : Change) → from ≤ length changes
    → past_by from (changes ++ change ∷ []) ≡ system_after changes ∷ past_by from changes
past-push from changes change within =
    let start : take from (changes ++ change ∷ []) ≡ take from changes = take-append-le from changes (change ∷ []) within in
    let rest : drop from (changes ++ change ∷ []) ≡ drop from changes ++ change ∷ [] = drop-append-le from changes (change ∷ []) within in
    ap (λ l. pasts_from (drop from (changes ++ change ∷ [])) (system_after l) []) start
    ∙ ap (λ l. pasts_from l (system_after (take from changes)) []) rest
    ∙ pasts-push (drop from changes) change (system_after (take from changes)) []
    ∙ ap (λ s. s ∷ past_by from changes) (after-parts from changes)

-- all changes are before the start
pub past-whole : (from : ℕ) (changes : List Change) → length changes ≤ from → past_by from changes ≡ []
past-whole from changes whole = ap (λ l. pasts_from l (system_after (take from changes)) []) (drop_all from changes whole)
