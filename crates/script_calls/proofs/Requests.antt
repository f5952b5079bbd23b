-- What every request of a call is.
use Rattle.std.proofs.Common.{◌≡◌, ◌≢◌, ℕ, ◌≤◌, Bool, true, false, List, [], ◌∷◌, length, map, Option, Some, None, IfOk, refl, arith, pos, negsuc, ℤ}
use Rattle.std.specs.List.{All, list_any}
use Rattle.std.proofs.lemmas.Bool.{ltb-false}
use Rattle.std.proofs.lemmas.List.Elements.{All-nil, All-cons}
use Rattle.do_value.specs.Tree.{Tree, undefined, null, boolean, number, text, list, rec}
use Rattle.storage_map.specs.declared.op.Op.{Op}
use Rattle.storage_map.specs.declared.op.Op.TheVariants as op
use Rattle.storage_txn.specs.Writes.{IsOnKey}
use Rattle.script_calls.specs.Requests.{IsShort, AreKeyed}
use Rattle.script_mean.specs.Calls.{handle_wants}
use Rattle.script_mean.specs.Errors.{bad_count, bad_time, key_long, rolled_back, value_long}
use Rattle.script_ops.specs.Errors.{wrong_type}
use Rattle.std.specs.Prelude.{codes, not, ◌&&◌}
use Rattle.script_mean.specs.Storing.{Request, reads, syncs, writes, unless, request, get, delete, put, put_pair, put_pairs, listed, listed_by, listing, set_alarm, on_keys, are_too_many, bound_of, count_of, limit_of, option, is_given, is_below_1, is_undefined, is_long_key, is_long_value, texts_in, value_of}
use Rattle.script_mean.specs.Task.{Completed, nothing, whether, how_many}
use Rattle.storage_map.specs.declared.ask.StoreAsk.{StoreAsk}
use Rattle.storage_map.specs.declared.ask.StoreAsk.TheVariants as store
use Rattle.script_mean.specs.declared.call.StorageCall.{StorageCall}
use Rattle.script_mean.specs.declared.call.StorageCall.TheVariants as storage
use Rattle.script_mean.specs.declared.call.HandleCall.{HandleCall}
use Rattle.script_mean.specs.declared.call.HandleCall.TheVariants as handle
use Rattle.script_mean.specs.declared.limits.TheConstants.{MOST_KEYS}
use Rattle.script_ops.specs.Calls.{argument}
use Rattle.script_ops.specs.Lists.{items_of, fields_of}
use Rattle.script_ops.specs.Truth.{is_true}

-- A test that stands before a request: what is found behind it is known to hold only where it fails.
past : (P : Request → Type 0) (test : Bool) (e : Tree) (tests : List (Bool × Tree)) (r : Request) → (test ≡ false → IfOk (unless tests r) P) → IfOk (unless ((test, e) ∷ tests) r) P
past P true e tests r h = tt
past P false e tests r h = h refl

-- A request that has what is said of it, whatever is tested before.
tested : (P : Request → Type 0) (tests : List (Bool × Tree)) (r : Request) → P r → IfOk (unless tests r) P
tested P [] r h = h
tested P (t ∷ tests) r h = past P t.0 t.1 tests r (λ none. tested P tests r h)

-- The tests of keys, of pairs and of a listing.
abbrev key_tests : Bool → List ℕ → List (Bool × Tree)
key_tests rolled key = (rolled, rolled_back) ∷ (is_long_key key, key_long) ∷ []

abbrev few_tests : List (List ℕ) → List (Bool × Tree)
few_tests keys = (are_too_many keys, bad_count) ∷ (list_any is_long_key keys, key_long) ∷ []

abbrev put_tests : Bool → List ℕ → Tree → List (Bool × Tree)
put_tests rolled key v = (rolled, rolled_back) ∷ (is_long_key key, key_long) ∷ (is_long_value v, value_long) ∷ []

abbrev long_tests : List (List ℕ × Tree) → List (Bool × Tree)
long_tests ps = (list_any (λ (p : List ℕ × Tree). is_long_key p.0) ps, key_long) ∷ (list_any (λ (p : List ℕ × Tree). is_long_value p.1) ps, value_long) ∷ []

abbrev pair_tests : Bool → List (List ℕ × Tree) → List (Bool × Tree)
pair_tests rolled ps = (rolled, rolled_back) ∷ (are_too_many ps, bad_count) ∷ long_tests ps

abbrev undefined_in : List (List ℕ × Tree) → Bool
undefined_in ps = list_any (λ (p : List ℕ × Tree). is_undefined p.1) ps

abbrev list_tests : Bool → Option ℤ → List (Bool × Tree)
list_tests rolled limit = (rolled, rolled_back) ∷ (is_below_1 limit, bad_count) ∷ []

-- What a listing asks.
abbrev asked : Option (List ℕ) → Option (List ℕ) → Option (List ℕ) → Option (List ℕ) → Bool → Option ℤ → StoreAsk
asked start after end prefix turned limit = store.List (record { start = start; after = after; end = end; prefix = prefix; reverse = turned; limit = count_of limit })

-- As many operations as there are keys or pairs.
length_map : {A : Type 0} (f : A → Op) (xs : List A) → length (map f xs) ≡ length xs
length_map f [] = refl
length_map f (x ∷ xs) = let e = length_map f xs in omega arith

-- Not too many keys make not too many operations.
short : {A : Type 0} (f : A → Op) (xs : List A) → are_too_many xs ≡ false → length (map f xs) ≤ 128
short f xs few = let n = ltb-false MOST_KEYS (length xs) few in omega (arith, length_map f xs)

-- Deletes, and puts, are on keys.
keyed_deletes : (keys : List (List ℕ)) → All IsOnKey (map op.Delete keys)
keyed_deletes [] = All-nil IsOnKey
keyed_deletes (key ∷ keys) = All-cons IsOnKey (op.Delete key) (map op.Delete keys) tt (keyed_deletes keys)

keyed_puts : (ps : List (List ℕ × Tree)) → All IsOnKey (map put_pair ps)
keyed_puts [] = All-nil IsOnKey
keyed_puts (p ∷ ps) = All-cons IsOnKey (put_pair p) (map put_pair ps) tt (keyed_puts ps)

one_keyed : (o : Op) → IsOnKey o → All IsOnKey (o ∷ [])
one_keyed o h = All-cons IsOnKey o [] h (All-nil IsOnKey)

-- What a request is that is made of several keys.
of_keys : (P : Request → Type 0) (rolled : Bool) (f : List (List ℕ) → Request) (texts : Option (List (List ℕ))) → ((keys : List (List ℕ)) → are_too_many keys ≡ false → P (f keys)) → IfOk (on_keys rolled f texts) P
of_keys P rolled f None h = tt
of_keys P rolled f (Some keys) h = past P rolled rolled_back (few_tests keys) (f keys) (λ live. past P (are_too_many keys) bad_count ((list_any is_long_key keys, key_long) ∷ []) (f keys) (λ few. tested P ((list_any is_long_key keys, key_long) ∷ []) (f keys) (h keys few)))

-- What an alarm that is set asks.
of_alarm : (P : Request → Type 0) → P syncs → ((o : Op) (c : Completed) → P (writes (o ∷ []) c)) → (has_handler : Bool) (t : Tree) → IfOk (set_alarm has_handler t) P
of_alarm P on_syncs on_any has_handler (number (pos n)) = tested P ((not has_handler, wrong_type) ∷ []) (writes (op.SetAlarm (pos n) 0 ∷ []) nothing) (on_any (op.SetAlarm (pos n) 0) nothing)
of_alarm P on_syncs on_any has_handler (number (negsuc n)) = tested P ((not has_handler, wrong_type) ∷ (true, bad_time) ∷ []) syncs on_syncs
of_alarm P on_syncs on_any has_handler undefined = tt
of_alarm P on_syncs on_any has_handler null = tt
of_alarm P on_syncs on_any has_handler (boolean b) = tt
of_alarm P on_syncs on_any has_handler (text bytes) = tt
of_alarm P on_syncs on_any has_handler (list ts) = tt
of_alarm P on_syncs on_any has_handler (rec ps) = tt

-- What is said of reads, of writes of one key, of deletes and of puts holds of all that calls ask.
module _ (P : Request → Type 0) (on_reads : (a : StoreAsk) → P (reads a)) (on_one : (o : Op) (c : Completed) → IsOnKey o → P (writes (o ∷ []) c))
    (on_deletes : (keys : List (List ℕ)) → are_too_many keys ≡ false → P (writes (map op.Delete keys) how_many))
    (on_puts : (ps : List (List ℕ × Tree)) → are_too_many ps ≡ false → P (writes (map put_pair ps) nothing)) where
  of_get : (rolled : Bool) (t : Tree) → IfOk (get rolled t) P
  of_get rolled (text key) = tested P (key_tests rolled key) (reads (store.Get key)) (on_reads (store.Get key))
  of_get rolled (list ts) = of_keys P rolled (λ ks. reads (store.GetMany ks)) (texts_in (items_of ts)) (λ keys few. on_reads (store.GetMany keys))
  of_get rolled undefined = tt
  of_get rolled null = tt
  of_get rolled (boolean b) = tt
  of_get rolled (number z) = tt
  of_get rolled (rec ps) = tt

  of_delete : (rolled : Bool) (t : Tree) → IfOk (delete rolled t) P
  of_delete rolled (text key) = tested P (key_tests rolled key) (writes (op.Delete key ∷ []) whether) (on_one (op.Delete key) whether tt)
  of_delete rolled (list ts) = of_keys P rolled (λ ks. writes (map op.Delete ks) how_many) (texts_in (items_of ts)) on_deletes
  of_delete rolled undefined = tt
  of_delete rolled null = tt
  of_delete rolled (boolean b) = tt
  of_delete rolled (number z) = tt
  of_delete rolled (rec ps) = tt

  of_pairs : (rolled : Bool) (ps : List (List ℕ × Tree)) → IfOk (put_pairs rolled ps) P
  of_pairs rolled ps =
      past P (undefined_in ps) wrong_type (pair_tests rolled ps) (writes (map put_pair ps) nothing) (λ defined.
      past P rolled rolled_back ((are_too_many ps, bad_count) ∷ long_tests ps) (writes (map put_pair ps) nothing) (λ live.
      past P (are_too_many ps) bad_count (long_tests ps) (writes (map put_pair ps) nothing) (λ few.
      tested P (long_tests ps) (writes (map put_pair ps) nothing) (on_puts ps few))))

  of_put : (rolled : Bool) (t v : Tree) → IfOk (put rolled t v) P
  of_put rolled (text key) v = tested P ((is_undefined v, wrong_type) ∷ put_tests rolled key v) (writes (op.Put key (value_of v) ∷ []) nothing) (on_one (op.Put key (value_of v)) nothing tt)
  of_put rolled (rec ps) v = of_pairs rolled (fields_of ps)
  of_put rolled undefined v = tt
  of_put rolled null v = tt
  of_put rolled (boolean b) v = tt
  of_put rolled (number z) v = tt
  of_put rolled (list ts) v = tt

  of_listing : (rolled : Bool) (start after end prefix : Option (Option (List ℕ))) (turned : Bool) (limit : Option (Option ℤ)) → IfOk (listing rolled start after end prefix turned limit) P
  of_listing rolled None after end prefix turned limit = tt
  of_listing rolled (Some start) None end prefix turned limit = tt
  of_listing rolled (Some start) (Some after) None prefix turned limit = tt
  of_listing rolled (Some start) (Some after) (Some end) None turned limit = tt
  of_listing rolled (Some start) (Some after) (Some end) (Some prefix) turned None = tt
  of_listing rolled (Some start) (Some after) (Some end) (Some prefix) turned (Some limit) =
      tested P ((is_given start && is_given after, wrong_type) ∷ list_tests rolled limit) (reads (asked start after end prefix turned limit)) (on_reads (asked start after end prefix turned limit))

  of_options : (rolled : Bool) (options : List (List ℕ × Tree)) → IfOk (listed_by rolled options) P
  of_options rolled options = of_listing rolled (bound_of (option (codes "start") options)) (bound_of (option (codes "startAfter") options)) (bound_of (option (codes "end") options)) (bound_of (option (codes "prefix") options)) (is_true (option (codes "reverse") options)) (limit_of (option (codes "limit") options))

  of_listed : (rolled : Bool) (t : Tree) → IfOk (listed rolled t) P
  of_listed rolled undefined = of_options rolled []
  of_listed rolled (rec ps) = of_options rolled (fields_of ps)
  of_listed rolled null = tt
  of_listed rolled (boolean b) = tt
  of_listed rolled (number z) = tt
  of_listed rolled (text key) = tt
  of_listed rolled (list ts) = tt

  -- What a call of a handle asks.
  of_wants : P syncs → (rolled : Bool) (c : HandleCall) (args : List Tree) → IfOk (handle_wants rolled c args) P
  of_wants on_syncs rolled handle.Get args = of_get rolled (argument 0 args)
  of_wants on_syncs rolled handle.List args = of_listed rolled (argument 0 args)
  of_wants on_syncs rolled handle.Put args = of_put rolled (argument 0 args) (argument 1 args)
  of_wants on_syncs rolled handle.Delete args = of_delete rolled (argument 0 args)
  of_wants on_syncs rolled handle.Rollback args = on_syncs

  -- What a call of the storage asks.
  of_request : P syncs → ((o : Op) (c : Completed) → P (writes (o ∷ []) c)) → (has_handler : Bool) (c : StorageCall) (args : List Tree) → IfOk (request has_handler c args) P
  of_request on_syncs on_any has_handler storage.Get args = of_get false (argument 0 args)
  of_request on_syncs on_any has_handler storage.List args = of_listed false (argument 0 args)
  of_request on_syncs on_any has_handler storage.GetAlarm args = on_reads store.Alarm
  of_request on_syncs on_any has_handler storage.Sync args = on_syncs
  of_request on_syncs on_any has_handler storage.Put args = of_put false (argument 0 args) (argument 1 args)
  of_request on_syncs on_any has_handler storage.Delete args = of_delete false (argument 0 args)
  of_request on_syncs on_any has_handler storage.DeleteAll args = on_any op.DeleteAll nothing
  of_request on_syncs on_any has_handler storage.SetAlarm args = of_alarm P on_syncs on_any has_handler (argument 0 args)
  of_request on_syncs on_any has_handler storage.DeleteAlarm args = on_any op.ClearAlarm nothing

-- A call asks for no more operations than it may have keys.
pub request_short : (has_handler : Bool) (c : StorageCall) (args : List Tree) → IfOk (request has_handler c args) IsShort
request_short = of_request IsShort (λ a. tt) (λ o c on. omega arith) (λ keys few. short op.Delete keys few) (λ ps few. short put_pair ps few) tt (λ o c. omega arith)

pub wants_short : (rolled : Bool) (c : HandleCall) (args : List Tree) → IfOk (handle_wants rolled c args) IsShort
wants_short = of_wants IsShort (λ a. tt) (λ o c on. omega arith) (λ keys few. short op.Delete keys few) (λ ps few. short put_pair ps few) tt

-- A call of a handle asks for operations on keys alone.
pub wants_keyed : (rolled : Bool) (c : HandleCall) (args : List Tree) → IfOk (handle_wants rolled c args) AreKeyed
wants_keyed = of_wants AreKeyed (λ a. tt) (λ o c on. one_keyed o on) (λ keys few. keyed_deletes keys) (λ ps few. keyed_puts ps) tt

-- After a rollback a call of a handle asks for nothing.
none_listed : (P : Request → Type 0) (start after end prefix : Option (Option (List ℕ))) (turned : Bool) (limit : Option (Option ℤ)) → IfOk (listing true start after end prefix turned limit) P
none_listed P None after end prefix turned limit = tt
none_listed P (Some start) None end prefix turned limit = tt
none_listed P (Some start) (Some after) None prefix turned limit = tt
none_listed P (Some start) (Some after) (Some end) None turned limit = tt
none_listed P (Some start) (Some after) (Some end) (Some prefix) turned None = tt
none_listed P (Some start) (Some after) (Some end) (Some prefix) turned (Some limit) =
    past P (is_given start && is_given after) wrong_type (list_tests true limit) (reads (asked start after end prefix turned limit)) (λ apart. tt {0})

none_of_keys : (P : Request → Type 0) (f : List (List ℕ) → Request) (texts : Option (List (List ℕ))) → IfOk (on_keys true f texts) P
none_of_keys P f None = tt
none_of_keys P f (Some keys) = tt

none_got : (P : Request → Type 0) (t : Tree) → IfOk (get true t) P
none_got P (text key) = tt
none_got P (list ts) = none_of_keys P (λ ks. reads (store.GetMany ks)) (texts_in (items_of ts))
none_got P undefined = tt
none_got P null = tt
none_got P (boolean b) = tt
none_got P (number z) = tt
none_got P (rec ps) = tt

none_deleted : (P : Request → Type 0) (t : Tree) → IfOk (delete true t) P
none_deleted P (text key) = tt
none_deleted P (list ts) = none_of_keys P (λ ks. writes (map op.Delete ks) how_many) (texts_in (items_of ts))
none_deleted P undefined = tt
none_deleted P null = tt
none_deleted P (boolean b) = tt
none_deleted P (number z) = tt
none_deleted P (rec ps) = tt

none_put : (P : Request → Type 0) (t v : Tree) → IfOk (put true t v) P
none_put P (text key) v = past P (is_undefined v) wrong_type (put_tests true key v) (writes (op.Put key (value_of v) ∷ []) nothing) (λ defined. tt {0})
none_put P (rec ps) v = past P (undefined_in (fields_of ps)) wrong_type (pair_tests true (fields_of ps)) (writes (map put_pair (fields_of ps)) nothing) (λ defined. tt {0})
none_put P undefined v = tt
none_put P null v = tt
none_put P (boolean b) v = tt
none_put P (number z) v = tt
none_put P (list ts) v = tt

none_by : (P : Request → Type 0) (options : List (List ℕ × Tree)) → IfOk (listed_by true options) P
none_by P options = none_listed P (bound_of (option (codes "start") options)) (bound_of (option (codes "startAfter") options)) (bound_of (option (codes "end") options)) (bound_of (option (codes "prefix") options)) (is_true (option (codes "reverse") options)) (limit_of (option (codes "limit") options))

none_in_list : (P : Request → Type 0) (t : Tree) → IfOk (listed true t) P
none_in_list P undefined = none_by P []
none_in_list P (rec ps) = none_by P (fields_of ps)
none_in_list P null = tt
none_in_list P (boolean b) = tt
none_in_list P (number z) = tt
none_in_list P (text key) = tt
none_in_list P (list ts) = tt

pub none_wanted : (P : Request → Type 0) (c : HandleCall) (args : List Tree) → c ≢ handle.Rollback → IfOk (handle_wants true c args) P
none_wanted P handle.Get args other = none_got P (argument 0 args)
none_wanted P handle.List args other = none_in_list P (argument 0 args)
none_wanted P handle.Put args other = none_put P (argument 0 args) (argument 1 args)
none_wanted P handle.Delete args other = none_deleted P (argument 0 args)
none_wanted P handle.Rollback args other = absurd (other refl)
