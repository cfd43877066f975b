-- An append to a log leaves storage files and instances as they are.
use Rattle.store_core.proofs.Common.{◌≡◌, ◌≢◌, ◌∙◌, ℕ, List, Option, History, SameButFor, FileName, between-map, BoxEntry, KeepsMail, StoreValue, OpenBox}
use Rattle.disk_model.specs.declared.name.FileName.TheVariants as file
use Rattle.store_core.proofs.BoxAppendLemmas.{Placed, own_box}

mail_beside : (name : FileName) (old new : Option History) → ((number : ℕ) → file.Mail number ≢ name) → ((hash id : List ℕ) → file.Inst hash id ≢ name) → SameButFor name old new → KeepsMail old new
mail_beside name old new no_mail no_inst same =
    between-map (λ a b. (other : FileName) → other ≢ name → b other ≡ a other) (λ a b. ((number : ℕ) → b (file.Mail number) ≡ a (file.Mail number)) × ((hash id : List ℕ) → b (file.Inst hash id) ≡ a (file.Inst hash id))) old new
    (λ a b s. (λ number. s (file.Mail number) (no_mail number), λ hash id. s (file.Inst hash id) (no_inst hash id))) same

-- to that of a mailbox
pub mail_boxed : {D : Type 0} → (old new : Option History) (v : StoreValue D) (k : ℕ) (b : OpenBox) (number : ℕ) (e : BoxEntry) → Placed old v k b number e → SameButFor b.log.name old new → KeepsMail old new
mail_boxed old new v k b number e p same =
    let q = own_box old v k b number e p in
    mail_beside b.log.name old new
    (λ mail w. absurd (let x : file.Mail mail ≡ file.Box q.box.number q.box.generation = w ∙ q.name in cc x))
    (λ hash id w. absurd (let x : file.Inst hash id ≡ file.Box q.box.number q.box.generation = w ∙ q.name in cc x)) same

-- to the map log
pub mail_mapped : (name : FileName) (generation : ℕ) (old new : Option History) → name ≡ file.Map generation → SameButFor name old new → KeepsMail old new
mail_mapped name generation old new is same =
    mail_beside name old new
    (λ mail w. absurd (let x : file.Mail mail ≡ file.Map generation = w ∙ is in cc x))
    (λ hash id w. absurd (let x : file.Inst hash id ≡ file.Map generation = w ∙ is in cc x)) same
