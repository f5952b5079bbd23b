-- What the operators answer.
use Rattle.std.specs.Prelude.{◌≡◌, ℕ, List, Option, Some, None, Result, Ok, Err, String, string_bytes, codes}
use Rattle.do_value.specs.Tree.{Tree}
use Rattle.do_value.specs.Seen.{tree_of}
use Rattle.do_value.specs.declared.value.Value.{Value}
use Rattle.do_value.specs.declared.fault.BuildFault.{BuildFault}
use Rattle.do_value.specs.declared.fault.BuildFault.TheVariants.{TooDeep as Deep, TooLarge as Large, NoMemory as Memory}
use Rattle.script_ops.specs.Errors.{wrong_type, no_property, no_number, not_whole, no_separator, too_deep}
use Rattle.script_ops.specs.Errors.{too_large, wrong_index, no_index, key_long, value_long}
use Rattle.script_ops.specs.Errors.{batch_full, bad_count, bad_time, name_long, nested_too_deep, rolled_back, block_in_block}
use Rattle.script_ops.specs.Errors.{call_too_deep, too_many_calls, fetch_failed, call_failed}
use Rattle.script_ops.specs.declared.fault.OpFault.{OpFault}
use Rattle.script_ops.specs.declared.fault.OpFault.TheVariants.{Throw, NoMemory}
use Rattle.script_ops.specs.declared.refusal.Refusal.{Refusal}
use Rattle.script_ops.specs.declared.refusal.Refusal.TheVariants.{WrongType, NoProperty, WrongIndex, NoIndex, NoNumber}
use Rattle.script_ops.specs.declared.refusal.Refusal.TheVariants.{NotWhole, NoSeparator, TooDeep, TooLarge}
use Rattle.script_ops.specs.declared.refusal.Refusal.TheVariants.{KeyLong, ValueLong, BatchFull, BadCount, BadTime}
use Rattle.script_ops.specs.declared.refusal.Refusal.TheVariants.{NameLong, NestedTooDeep, RolledBack, BlockInBlock}
use Rattle.script_ops.specs.declared.refusal.Refusal.TheVariants.{CallTooDeep, TooManyCalls, FetchFailed, CallFailed}
use Rattle.script_ops.specs.declared.refusal.CallFailure.{CallFailure}
use Rattle.script_ops.specs.declared.refusal.CallFailure.TheVariants.{NoClass, NoMethod, NoSlot, Thrown, Exceeded, Reset, Down}
use Rattle.script_ops.specs.declared.fault.Stop.{Stop}
use Rattle.script_ops.specs.declared.fault.Stop.TheVariants.{Throws, NoRoom}

-- The answer is the value, or what is thrown, that the definition gives. It may always be that there is no memory.
abbrev pub Answers : Result Tree Tree → Result Value OpFault → Type 0
Answers meant (Ok v) = meant ≡ Ok (tree_of v)
Answers meant (Err (Throw v)) = meant ≡ Err (tree_of v)
Answers meant (Err NoMemory) = Unit {0}

-- The word of a call's failure.
abbrev pub failure_word : CallFailure → List ℕ
failure_word NoClass = codes "NoClass"
failure_word NoMethod = codes "NoMethod"
failure_word NoSlot = codes "NoSlot"
failure_word Thrown = codes "Thrown"
failure_word Exceeded = codes "Exceeded"
failure_word Reset = codes "Reset"
failure_word Down = codes "Down"

-- The error that a refusal stands for.
abbrev pub error_of : Refusal → Tree
error_of WrongType = wrong_type
error_of NoProperty = no_property
error_of WrongIndex = wrong_index
error_of NoIndex = no_index
error_of NoNumber = no_number
error_of NotWhole = not_whole
error_of NoSeparator = no_separator
error_of TooDeep = too_deep
error_of TooLarge = too_large
error_of KeyLong = key_long
error_of ValueLong = value_long
error_of BatchFull = batch_full
error_of BadCount = bad_count
error_of BadTime = bad_time
error_of NameLong = name_long
error_of NestedTooDeep = nested_too_deep
error_of RolledBack = rolled_back
error_of BlockInBlock = block_in_block
error_of CallTooDeep = call_too_deep
error_of TooManyCalls = too_many_calls
error_of FetchFailed = fetch_failed
error_of (CallFailed failure) = call_failed (failure_word failure)

-- The fault throws the refusal's error, or there is no memory.
abbrev pub IsFaultOf : Stop → OpFault → Type 0
IsFaultOf (Throws refusal) (Throw v) = error_of refusal ≡ tree_of v
IsFaultOf NoRoom (Throw v) = ⊥
IsFaultOf stop NoMemory = Unit {0}

-- The same of an answer whose error isn't built yet.
abbrev pub Gives : Result Tree Tree → Result Value Stop → Type 0
Gives meant (Ok v) = meant ≡ Ok (tree_of v)
Gives meant (Err (Throws refusal)) = meant ≡ Err (error_of refusal)
Gives meant (Err NoRoom) = Unit {0}

-- Why a value isn't built.
abbrev pub stop_of : BuildFault → Stop
stop_of Deep = Throws TooDeep
stop_of (Large size limit) = Throws TooLarge
stop_of Memory = NoRoom

-- The text of a value, or none where it has none.
abbrev pub Prints : {A : Type 0} → Option (List ℕ) → Result (String A) Stop → Type 0
Prints meant (Ok s) = meant ≡ Some (string_bytes s)
Prints meant (Err (Throws refusal)) = (meant ≡ None) × (refusal ≡ WrongType)
Prints meant (Err NoRoom) = Unit {0}
