-- Each name names the mailbox that it named, where the mailboxes of the map stay and at most further ones are made behind them.
use Rattle.std.specs.Prelude.{find}
use Rattle.std.specs.Str.{bytes_eq}
use Rattle.std.specs.Option.{option_map, option_or}
use Rattle.std.proofs.Common.{◌≡◌, ℕ, List, [], ◌∷◌, ◌++◌, Option, Some, None, ◌∙◌, ap}
use Rattle.std.proofs.lemmas.List.Folds.{find-append}
use Rattle.mdbox_base.specs.declared.entries.MapEntry.TheVariants as map_entry
use Rattle.mdbox_base.specs.declared.ids.BoxNo.{BoxNo}
use Rattle.model_meaning.specs.MapMeaning.{MapBox, MapMeaning, map_applied}
use Rattle.model_meaning.proofs.AppliedLemmas.{boxes_by_mailbox}
use Rattle.task_claims.specs.Leaving.{NamesStay}

-- the number of what was found stays the first
number_stays : (found more : Option MapBox) (number : ℕ) → option_map (λ (box : MapBox). box.number) found ≡ Some number → option_map (λ (box : MapBox). box.number) (option_or found more) ≡ Some number
number_stays (Some box) more number is = is
number_stays None more number is = absurd (let k : None ≡ Some number = is in cc k)

-- further mailboxes are made
pub names_stay_with_made : (m n : MapMeaning) (made : List MapBox) → n.boxes ≡ m.boxes ++ made → NamesStay m n
names_stay_with_made m n made same name number is =
    let found : find (λ box. bytes_eq box.name name) n.boxes ≡ option_or (find (λ box. bytes_eq box.name name) m.boxes) (find (λ box. bytes_eq box.name name) made) = ap (find (λ (box : MapBox). bytes_eq box.name name)) same ∙ find-append (λ (box : MapBox). bytes_eq box.name name) m.boxes made in
    ap (option_map (λ (box : MapBox). box.number)) found ∙ number_stays (find (λ box. bytes_eq box.name name) m.boxes) (find (λ box. bytes_eq box.name name) made) number is

-- the mailboxes stay
pub names_stay : (m n : MapMeaning) → n.boxes ≡ m.boxes → NamesStay m n
names_stay m n same name number is = ap (λ (boxes : List MapBox). option_map (λ (box : MapBox). box.number) (find (λ box. bytes_eq box.name name) boxes)) same ∙ is

-- the map stays
pub names_stay_same : (m n : MapMeaning) → n ≡ m → NamesStay m n
names_stay_same m n same = names_stay m n (ap (λ (k : MapMeaning). k.boxes) same)

-- an entry makes a mailbox
pub names_stay_named : (mailbox : BoxNo) (generation : ℕ) (name : List ℕ) (m n : MapMeaning) → n ≡ map_applied (map_entry.B mailbox generation name) m → NamesStay m n
names_stay_named mailbox generation name m n is = names_stay_with_made m n (record { number = mailbox.0; generation = generation; name = name } ∷ []) (ap (λ (k : MapMeaning). k.boxes) is ∙ boxes_by_mailbox mailbox generation name m.boxes)

-- and one event after another
pub names_stay_on : (m n o : MapMeaning) → NamesStay m n → NamesStay n o → NamesStay m o
names_stay_on m n o first second name number is = second name number (first name number is)
