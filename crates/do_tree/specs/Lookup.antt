-- Classes and methods by their names, and their numbers: places in the lists of the script, from 0.
use Rattle.std.specs.Prelude.{ℕ, Bool, true, false, ◌&&◌, not, if◌then◌else◌, List, [], Option, Some, None, position, slice_get, codes}
use Rattle.std.specs.Str.{bytes_eq}
use Rattle.do_tree.specs.Tree.{Script, Class, Method}
use Rattle.do_tree.specs.declared.script.MethodKind.{MethodKind}
use Rattle.do_tree.specs.declared.script.MethodKind.TheVariants as method

-- The number of the class of this name.
abbrev pub class_named : Script → List ℕ → Option ℕ
class_named script name = position (λ class. bytes_eq class.name.text name) script.classes

-- The methods of the class of this number, none where no class has it.
abbrev pub methods_of_class : Option Class → List Method
methods_of_class None = []
methods_of_class (Some class) = class.methods

abbrev pub methods_of : Script → ℕ → List Method
methods_of script class = methods_of_class (slice_get script.classes class)

abbrev pub is_constructor : MethodKind → Bool
is_constructor method.Constructor = true
is_constructor method.Sync = false
is_constructor method.Async = false

-- The number of a class's constructor.
abbrev pub constructor_of : Script → ℕ → Option ℕ
constructor_of script class = position (λ m. is_constructor m.kind) (methods_of script class)

abbrev pub is_named : List ℕ → Method → Bool
is_named name m = not (is_constructor m.kind) && bytes_eq m.name.text name

-- The number of a class's alarm handler.
abbrev pub alarm_of : Script → ℕ → Option ℕ
alarm_of script class = position (is_named (codes "alarm")) (methods_of script class)

-- The number of a class's method, as callers name it: the constructor and the alarm handler are no methods
-- to them.
abbrev pub method_named : Script → ℕ → List ℕ → Option ℕ
method_named script class name =
    if bytes_eq name (codes "alarm") then None else position (is_named name) (methods_of script class)
