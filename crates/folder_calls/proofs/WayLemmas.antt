-- The systems that a run of writes leaves on its way.
use Rattle.std.proofs.Common.{◌≡◌, ℕ, ◌≤◌, List, length, take, Option, Some, None, refl, sym, subst}
use Rattle.disk_model.specs.Disk.{written}
use Rattle.folder_model.specs.System.{System, with_content}
use Rattle.folder_model.specs.Calls.{Modelled, IfModelled, HasPassed, AreSince, done_by}
use Rattle.folder_model.proofs.PastLemmas.{since-passed}
use Rattle.folder_calls.specs.Writing.{IsOnItsWay}

on_way : (number at done : ℕ) (octets : List ℕ) (old : Option Modelled) → done ≤ length octets
    → IfModelled (done_by (with_content number (written at (take done octets))) old) (IsOnItsWay number at octets old)
on_way number at done octets None within = tt
on_way number at done octets (Some m) within = (done, within, refl)

-- one call more
pub way-goes_on : (number at done : ℕ) (octets : List ℕ) (old now new : Option Modelled) (start before after : List System) → done ≤ length octets
    → now ≡ done_by (with_content number (written at (take done octets))) old → AreSince (IsOnItsWay number at octets old) start before
    → HasPassed now before new after → AreSince (IsOnItsWay number at octets old) start after
way-goes_on number at done octets old now new start before after within so since has =
    let P : System → Type 0 = IsOnItsWay number at octets old in
    let F : Option Modelled → Type 0 = λ m. IfModelled m P in
    since-passed P now new start before after (subst F (sym so) (on_way number at done octets old within)) since has
