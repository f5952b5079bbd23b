-- The forms of calls, and what a path has come to step by step (this project's profile; the names are those of
-- the Durable Objects documentation). A path is read from its beginning: `this`, then `this.ctx`, then the
-- storage, then a method of it, then its call.
use Rattle.std.specs.Prelude.{ℕ, Bool, true, false, ◌&&◌, ◌||◌, not, if◌then◌else◌, List, [], ◌∷◌, Option, Some, None, codes}
use Rattle.std.specs.List.{list_any}
use Rattle.std.specs.Str.{bytes_eq}
use Rattle.do_lex.specs.Kind.{is_keyword}
use Rattle.do_tree.specs.Tree as tree
use Rattle.do_tree.specs.Tree.{Named, Expr, Links, Args}

-- What a name in sight stands for: a variable, a constant, a transaction's handle, or what a constructor is given.
pub data Sort : Type 0 where
  variable : Sort
  constant : Sort
  transacting : Sort
  given_ctx : Sort
  given_env : Sort

-- A name in sight.
pub record Bound : Type 0 where
  pub name : List ℕ
  pub sort : Sort

-- What the innermost binding of a name makes of it, if it is in sight. The innermost comes first.
abbrev pub sort_in : List Bound → List ℕ → Option Sort
sort_in [] name = None
sort_in (b ∷ bs) name = if bytes_eq b.name name then Some b.sort else sort_in bs name

abbrev pub among : List (List ℕ) → List ℕ → Bool
among words name = list_any (λ word. bytes_eq word name) words

-- The forms, row by row: storage that is read, listed or written; a transaction; a block; the same of a
-- transaction's handle; a method of the object itself; an object's identifier, the object, and a method of it;
-- a fetch; and a call that asks nothing.
pub data Form : Type 0 where
  reads : Form
  lists : Form
  writes : Form
  transacts : Form
  blocks : Form
  handle_reads : Form
  handle_lists : Form
  writes_handle : Form
  rolls_back : Form
  helps : Named → Form
  identifies : List ℕ → Form
  opens : List ℕ → Form
  reaches : Form
  fetches : Form
  computes : Form

abbrev pub storage_writes : List (List ℕ)
storage_writes = codes "put" ∷ codes "delete" ∷ codes "deleteAll" ∷ codes "setAlarm" ∷ codes "deleteAlarm" ∷ []

-- The methods of the storage.
abbrev pub storage_form : List ℕ → Option Form
storage_form word =
    if among (codes "get" ∷ codes "getAlarm" ∷ codes "sync" ∷ []) word then Some reads
    else (if among storage_writes word then Some writes
    else (if bytes_eq (codes "list") word then Some lists
    else (if bytes_eq (codes "transaction") word then Some transacts
    else None)))

abbrev pub handle_writes : List (List ℕ)
handle_writes = codes "put" ∷ codes "delete" ∷ []

-- The methods of a transaction's handle.
abbrev pub handle_form : List ℕ → Option Form
handle_form word =
    if bytes_eq (codes "get") word then Some handle_reads
    else (if among handle_writes word then Some writes_handle
    else (if bytes_eq (codes "list") word then Some handle_lists
    else (if bytes_eq (codes "rollback") word then Some rolls_back
    else None)))

-- The methods of a class in the environment: its objects by identifiers, and identifiers by names.
abbrev pub class_form : List ℕ → List ℕ → Option Form
class_form class word =
    if bytes_eq (codes "get") word then Some (opens class)
    else (if bytes_eq (codes "idFromName") word then Some (identifies class)
    else None)

-- Words of the language that are called.
abbrev pub word_form : List ℕ → Option Form
word_form word =
    if bytes_eq (codes "fetch") word then Some fetches
    else (if among (codes "String" ∷ codes "Number" ∷ []) word then Some computes
    else None)

-- Words of the language of which a part is called.
abbrev pub owner_form : List ℕ → List ℕ → Option Form
owner_form owner word =
    if (bytes_eq (codes "Object") owner && bytes_eq (codes "keys") word)
    || (bytes_eq (codes "Array") owner && bytes_eq (codes "isArray") word)
    || (bytes_eq (codes "Date") owner && bytes_eq (codes "now") word)
    then Some computes else None

abbrev pub language_words : List (List ℕ)
language_words = codes "fetch" ∷ codes "String" ∷ codes "Number" ∷ codes "Object" ∷ codes "Array" ∷ codes "Date" ∷ []

abbrev pub value_methods : List (List ℕ)
value_methods = codes "includes" ∷ codes "indexOf" ∷ codes "slice" ∷ codes "startsWith" ∷ codes "endsWith" ∷ codes "split" ∷ []

-- The methods of lists and texts. `push` is one of a place alone.
abbrev pub is_method : Bool → List ℕ → Bool
is_method is_place word = among value_methods word || (is_place && bytes_eq (codes "push") word)

-- What a path has come to. `own`: this.Name; `part`: a field of a place, or of another value; `callee`: a form but
-- for its call; `called`: the call of a form; `lost`: what is no form.
pub data Stage : Type 0 where
  itself : Stage
  context : Stage
  storage : Stage
  environment : Stage
  of_class : List ℕ → Stage
  handle : Stage
  word : List ℕ → Stage
  own : Named → Stage
  part : Bool → List ℕ → Stage
  place : Stage
  value : Stage
  callee : Form → Stage
  called : Form → Stage
  lost : Stage

-- What a name begins. A name that isn't in sight begins a word of the language, or else a place.
abbrev pub start_name : List ℕ → Option Sort → Stage
start_name name (Some variable) = place
start_name name (Some constant) = place
start_name name (Some transacting) = handle
start_name name (Some given_ctx) = context
start_name name (Some given_env) = environment
start_name name None = if among language_words name then word name else place

abbrev pub start : List Bound → Expr → Stage
start names (tree.this at) = itself
start names (tree.variable n) = start_name n.text (sort_in names n.text)
start names _ = value

-- Whether a call of the form has a value, at once or when it is awaited.
abbrev pub gives_value : Form → Bool
gives_value rolls_back = false
gives_value (identifies class) = false
gives_value (opens class) = false
gives_value _ = true

abbrev pub callee_of : Option Form → Stage
callee_of None = lost
callee_of (Some f) = callee f

abbrev pub called_of : Option Form → Stage
called_of None = lost
called_of (Some f) = called f

-- A form's call and then a field.
abbrev pub field_of_called : Form → List ℕ → Stage
field_of_called (opens class) name = callee reaches
field_of_called f name = if gives_value f then part false name else lost

-- .NAME. The object's own fields and methods have names that are no keywords.
abbrev pub after_field : Stage → Named → Stage
after_field itself n =
    if bytes_eq (codes "ctx") n.text then context
    else (if bytes_eq (codes "env") n.text then environment
    else (if is_keyword n.text then lost
    else own n))
after_field context n =
    if bytes_eq (codes "storage") n.text then storage
    else (if bytes_eq (codes "blockConcurrencyWhile") n.text then callee blocks
    else lost)
after_field storage n = callee_of (storage_form n.text)
after_field environment n = of_class n.text
after_field (of_class x) n = callee_of (class_form x n.text)
after_field handle n = callee_of (handle_form n.text)
after_field (word w) n = callee_of (owner_form w n.text)
after_field (own m) n = part true n.text
after_field (part is_place w) n = part is_place n.text
after_field place n = part true n.text
after_field value n = part false n.text
after_field (callee f) n = lost
after_field (called f) n = field_of_called f n.text
after_field lost n = lost

abbrev pub indexed : Bool → Stage
indexed is_place = if is_place then place else value

-- [INDEX]
abbrev pub after_index : Stage → Stage
after_index (own m) = place
after_index (part is_place w) = indexed is_place
after_index place = place
after_index value = value
after_index (called f) = if gives_value f then value else lost
after_index _ = lost

-- Steps that begin with a call, and steps that are one call.
abbrev pub is_call_first : Links → Bool
is_call_first (tree.call at a ls) = true
is_call_first _ = false

abbrev pub ends : Links → Bool
ends tree.no_links = true
ends _ = false

abbrev pub is_one_call : Links → Bool
is_one_call (tree.call at a ls) = ends ls
is_one_call _ = false

-- The class X, of an expression that is E.X.idFromName(..), E being this.env, or env in a constructor.
abbrev pub identified_in : List ℕ → Links → Option (List ℕ)
identified_in x (tree.field method ls) = if bytes_eq (codes "idFromName") method.text && is_one_call ls then Some x else None
identified_in x _ = None

abbrev pub identified : Stage → Links → Option (List ℕ)
identified environment (tree.field x ls) = identified_in x.text ls
identified _ _ = None

abbrev pub identified_from : Stage → Links → Option (List ℕ)
identified_from itself (tree.field env ls) = identified (after_field itself env) ls
identified_from st ls = identified st ls

abbrev pub identified_class : List Bound → Expr → Option (List ℕ)
identified_class names (tree.path at e ls) = identified_from (start names e) ls
identified_class names _ = None

abbrev pub is_class : List ℕ → Option (List ℕ) → Bool
is_class class None = false
is_class class (Some x) = bytes_eq class x

-- What the first argument of a call is there for: its value, the identifier of an object, or the body of a
-- transaction or of a block.
pub data Role : Type 0 where
  plain : Role
  identifier : Role
  transaction : Role
  block : Role

abbrev pub role_of : Stage → Role
role_of (callee transacts) = transaction
role_of (callee blocks) = block
role_of (callee (opens class)) = identifier
role_of _ = plain

abbrev pub has_name : Option Named → Bool
has_name None = false
has_name (Some n) = true

-- A transaction asks for a callback with a parameter, a block for one without.
abbrev pub takes_callback : Role → Option Named → Bool
takes_callback transaction n = has_name n
takes_callback block n = not (has_name n)
takes_callback _ n = false

abbrev pub has_callback : Role → Args → Bool
has_callback r (tree.callback at n is rest) = takes_callback r n
has_callback r _ = false

abbrev pub has_identifier : List Bound → List ℕ → Args → Bool
has_identifier names class (tree.value_arg e rest) = is_class class (identified_class names e)
has_identifier names class _ = false

-- The first argument is what the form asks for.
abbrev pub fits : List Bound → Form → Args → Bool
fits names transacts a = has_callback transaction a
fits names blocks a = has_callback block a
fits names (opens class) a = has_identifier names class a
fits names _ a = true

-- (ARGS)
abbrev pub after_call : List Bound → Stage → Args → Stage
after_call names (callee f) a = if fits names f a then called f else lost
after_call names (own n) a = called (helps n)
after_call names (part is_place w) a = if is_method is_place w then called computes else lost
after_call names (word w) a = called_of (word_form w)
after_call names _ a = lost
