-- Laws of a run with one event more.
use Rattle.std.specs.Prelude.{◌≡◌, ◌≤◌, ◌+◌, ℕ, List, [], ◌∷◌, ◌++◌, flat_map, fold, refl}
use Rattle.std.proofs.Common.{sym, ◌∙◌, ap, arith}
use Rattle.std.proofs.lemmas.Grind.{flat_map-append}
use Rattle.std.proofs.lemmas.List.{append-nil}
use Rattle.std.proofs.lemmas.List.Elements.{All-nil, All-push, All-weaker}
use Rattle.mdbox_base.specs.declared.entries.Highest.{Highest}
use Rattle.mdbox_base.specs.declared.entries.MapEntry.{MapEntry}
use Rattle.model_meaning.specs.MapMeaning.{MapMeaning, map_meaning, map_applied, no_numbers}
use Rattle.model_meaning.proofs.MapLemmas.{map_more}
use Rattle.list_machine.specs.Run.{RunEvent, Run, and_then, entries_of, drawn_also, drawn_of}
use Rattle.journal.specs.Makes.{HasCome}

append_assoc : {X : Type 0} → (xs ys zs : List X) → (xs ++ ys) ++ zs ≡ xs ++ (ys ++ zs)
append_assoc [] ys zs = refl
append_assoc (x ∷ xs) ys zs = ap (λ (l : List _). x ∷ l) (append_assoc xs ys zs)

-- the entries, with those of one event more
pub entries_more : (run : Run) (event : RunEvent) → entries_of (and_then run event) ≡ entries_of run ++ event.map_entries
entries_more run event =
    ap (λ (l : List MapEntry). run.start ++ l) (flat_map-append (λ (e : RunEvent). e.map_entries) run.events (event ∷ []) ∙ ap (λ (l : List MapEntry). flat_map (λ (e : RunEvent). e.map_entries) run.events ++ l) (append-nil event.map_entries))
    ∙ sym (append_assoc run.start _ event.map_entries)

fold_push : {X Y : Type 0} → (f : Y → X → Y) (start : Y) (xs : List X) (x : X) → fold f start (xs ++ x ∷ []) ≡ f (fold f start xs) x
fold_push f start [] x = refl
fold_push f start (y ∷ ys) x = fold_push f (f start y) ys x

pub drawn_more : (run : Run) (event : RunEvent) → drawn_of (and_then run event) ≡ drawn_also (drawn_of run) event.drew
drawn_more run event = fold_push (λ (d : Highest) (e : RunEvent). drawn_also d e.drew) run.opened run.events event

abbrev numbers : ℕ → ℕ → ℕ → ℕ → Highest
numbers file map instance mailbox = record { file = file; map = map; instance = instance; mailbox = mailbox }

pub drawn_none : (d : Highest) → drawn_also d no_numbers ≡ d
drawn_none d =
    ((ap (λ (n : ℕ). numbers n (d.map + 0) (d.instance + 0) (d.mailbox + 0)) (omega arith) ∙ ap (λ (n : ℕ). numbers d.file n (d.instance + 0) (d.mailbox + 0)) (omega arith))
    ∙ ap (λ (n : ℕ). numbers d.file d.map n (d.mailbox + 0)) (omega arith)) ∙ ap (λ (n : ℕ). numbers d.file d.map d.instance n) (omega arith)

-- A run comes on with an event that appends nothing to the map and draws nothing.
pub comes_on : (run : Run) (event : RunEvent) (m : MapMeaning) (drawn : Highest) (calls : ℕ) → HasCome run m drawn calls → calls ≤ event.moment → event.map_entries ≡ [] → event.drew ≡ no_numbers
    → HasCome (and_then run event) m drawn event.moment
comes_on run event m drawn calls c le none drew = record {
  map_is = ap (λ (es : List MapEntry). map_meaning run.store es) ((entries_more run event ∙ ap (λ (es : List MapEntry). entries_of run ++ es) none) ∙ append-nil (entries_of run)) ∙ c.map_is;
  drawn_is = ((drawn_more run event ∙ ap (λ (d : Highest). drawn_also (drawn_of run) d) drew) ∙ drawn_none (drawn_of run)) ∙ c.drawn_is;
  moments = All-push (λ (e : RunEvent). e.moment ≤ event.moment) run.events event (All-weaker (λ (e : RunEvent). e.moment ≤ calls) (λ (e : RunEvent). e.moment ≤ event.moment) (λ e h. omega (arith, h, le)) run.events c.moments) (omega arith);
}

-- A run comes on with an event that appends one entry to the map: the store's map is the one with that entry applied, and
-- its numbers are raised by those that the event drew.
pub comes_on_with : (run : Run) (event : RunEvent) (entry : MapEntry) (m : MapMeaning) (drawn : Highest) (calls : ℕ) → HasCome run m drawn calls → calls ≤ event.moment → event.map_entries ≡ entry ∷ []
    → HasCome (and_then run event) (map_applied entry m) (drawn_also drawn event.drew) event.moment
comes_on_with run event entry m drawn calls c le one = record {
  map_is = ((ap (λ (es : List MapEntry). map_meaning run.store es) (entries_more run event ∙ ap (λ (es : List MapEntry). entries_of run ++ es) one)) ∙ map_more run.store (entries_of run) entry) ∙ ap (λ (k : MapMeaning). map_applied entry k) c.map_is;
  drawn_is = drawn_more run event ∙ ap (λ (d : Highest). drawn_also d event.drew) c.drawn_is;
  moments = All-push (λ (e : RunEvent). e.moment ≤ event.moment) run.events event (All-weaker (λ (e : RunEvent). e.moment ≤ calls) (λ (e : RunEvent). e.moment ≤ event.moment) (λ e h. omega (arith, h, le)) run.events c.moments) (omega arith);
}

-- A run without events has come to where its entries and its numbers stand.
pub comes_first : (store : List ℕ) (start : List MapEntry) (opened : Highest) (barred : List ℕ) (calls : ℕ) → HasCome (record { store = store; start = start; opened = opened; barred = barred; events = [] }) (map_meaning store start) opened calls
comes_first store start opened barred calls = record {
  map_is = ap (λ (es : List MapEntry). map_meaning store es) (append-nil start);
  drawn_is = refl;
  moments = All-nil (λ (e : RunEvent). e.moment ≤ calls);
}
