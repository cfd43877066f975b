-- A script done in its own order, one request after another.
use Rattle.std.specs.Prelude.{ℕ, List, [], ◌∷◌, ◌++◌, fold, length, sum_by}
use Rattle.std.specs.Option.{option_map_or}
use Rattle.mdbox_base.specs.declared.requests.Request.{Request}
use Rattle.mdbox_base.specs.declared.requests.Request.TheVariants as request
use Rattle.model_lists.specs.Lists.{Lists, empty_mailbox}
use Rattle.list_machine.specs.Machine.{add_message, delete_mailbox, expunge, message_at, rename_mailbox, set_flags, set_words}
use Rattle.journal.specs.Journal.{Requests}

-- the lists with the copy of a message, if it is there
abbrev pub with_copy : List ℕ → ℕ → List ℕ → Lists → Lists
with_copy name uid target lists = option_map_or (λ message. add_message target message lists) (message_at name uid lists) lists

-- The lists that a request leaves which is done: a mailbox that it makes has the number 0, and a message that it delivers no GUID.
abbrev pub lists_done : Request → Lists → Lists
lists_done (request.Make name) lists = lists ++ empty_mailbox 0 name ∷ []
lists_done (request.Delete name) lists = delete_mailbox name lists
lists_done (request.Rename name target) lists = rename_mailbox name target lists
lists_done (request.Deliver name time octets) lists = add_message name (record { uid = 0; flags = 0; time = time; guid = []; octets = octets; words = [] }) lists
lists_done (request.Copy name uid target) lists = with_copy name uid.0 target lists
lists_done (request.Move name uid target) lists = expunge name uid.0 (with_copy name uid.0 target lists)
lists_done (request.Expunge name uid) lists = expunge name uid.0 lists
lists_done (request.Flag name uid flags) lists = set_flags name uid.0 flags lists
lists_done (request.Keywords name uid words) lists = set_words name uid.0 words lists
lists_done other lists = lists

-- those that a script leaves whose requests are done in order
abbrev pub lists_in_order : Requests → Lists → Lists
lists_in_order script lists = fold (λ now asked. lists_done asked.1 now) lists script

-- how many messages lists have, and how many octets these have
abbrev pub message_total : Lists → ℕ
message_total lists = sum_by (λ mailbox. length mailbox.messages) lists

abbrev pub octet_total : Lists → ℕ
octet_total lists = sum_by (λ mailbox. sum_by (λ message. length message.octets) mailbox.messages) lists

-- how many messages a script delivers
abbrev pub delivered_by : Request → ℕ
delivered_by (request.Deliver name time octets) = 1
delivered_by other = 0

abbrev pub deliveries_in : Requests → ℕ
deliveries_in script = sum_by (λ asked. delivered_by asked.1) script
