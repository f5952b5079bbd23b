use Rattle.std.proofs.Common.{◌≡◌, ◌≤◌, ◌<◌, ◌+◌, ℕ, List, [], ◌∷◌, ◌++◌, length, length-append, Option, Some, None, Result, Ok, Err, true, false, refl, sym, ◌∙◌, ap, subst, arith, rules, map, codes}
use Rattle.do_lex.specs.declared.kind.Kind.TheVariants as kind
use Rattle.do_lex.specs.declared.kind.Mark.TheVariants as mark
use Rattle.do_lex.specs.declared.kind.Keyword.TheVariants as key
use Rattle.do_tree.specs.Grammar.{IsMember, IsClass, AreNames, AreClasses, IsImport}
use Rattle.do_tree.specs.Seen.{named_of, option_named_of, stmt_of, method_of, class_of, script_of}
use Rattle.do_tree.specs.Tree as tree
use Rattle.do_tree.specs.declared.script.MethodKind.TheVariants as method
use Rattle.do_tree.specs.declared.stmt.Binding.TheVariants as bind
use Rattle.do_parse.specs.Lists.{BeginsWith, Repeat, Starting}
use Rattle.do_parse.specs.Parsed.{Parses, Anything, ends_by}
use Rattle.do_parse.specs.Pieces.{IsMethodRest, IsNextName, NothingLeft}
use Rattle.do_parse.specs.Starts as starts
use Rattle.do_parse.specs.Then.{with_tree}
use Rattle.do_parse.specs.Trees.{stmt_at, bound_of, names_at, signature_of, class_head_of}
use Rattle.do_parse.proofs.Behinds.{mark_last, mark_closes, items_behind, caught_name_behind, paren_last, head_same, paren_behind, binding_behind, name_last, const_same, let_same, bound_ok, bound_stop, bound_const, bound_let, stop_other}
use Rattle.do_parse.proofs.Dependent.{dep_stop, dep_seq}
use Rattle.do_parse.proofs.Lists.{not_behind, started, grows_first, repeat_more, repeat_stop, repeat_end}
use Rattle.do_parse.proofs.MemberRules.{ctx_env_same, super_same, signature_same, rest_same, constructor_same, async_same, sync_here, method_path}
use Rattle.do_parse.proofs.NodeTrees.{items_seen, made_tree, block_seen, simple_seen, for_seen, made_seen, ok_as, key_as, plain, with_last}
use Rattle.do_parse.proofs.ScriptBehinds.{env_close, env_behind, comma_behind, ctx_behind, super_close, super_behind, super_items, brace_behind, parameters_behind, names_close, names_behind, open_behind, more_names_behind, next_name_behind, method_body_behind, async_behind, member_behind, members_close, members_behind, head_open, head_base, head_extends, head_name, head_class, more_classes_behind, classes_behind, first_name, first_class, next_name_some, member_some, class_some, left_some, end_class, word_member, import_close, import_text, import_end_behind, import_brace, import_base, import_open}
use Rattle.do_parse.proofs.ScriptRules.{next_name_same, names_same, no_names, no_next_name, comma_no_end, members_of_list, no_member, class_head_same, class_same, classes_same, no_class, tokens_left, import_same, no_import, import_end_same, whole_same}
use Rattle.do_parse.proofs.Sequence.{seq, stop, read_as, read_here, handed_on, made_on, narrow}
use Rattle.do_parse.proofs.SimpleRules.{Caught, caught_same, no_caught, stmt_deep}
use Rattle.do_parse.proofs.Statements.{break_same, continue_same}
use Rattle.std.specs.Option.{is_some}
use Rattle.std.proofs.lemmas.Bool.{false≢true}
use Rattle.do_parse.specs.Deep.{stop_of}
use Rattle.do_parse.proofs.Exits.{grows_on, grows_none, no_memory, handed}
use Rattle.do_parse.proofs.Falls.{falls}
use Rattle.do_parse.proofs.cursor.Cursor.members.Goals as goal

pub loop-self-init : goal.loop-self-init
loop-self-init c = record {
  grows = grows_none c.args.self.now method_of c.new-methods.result.items c.new-methods.ensures.items;
  few = omega (arith, ap (λ xs. length xs) c.new-methods.ensures.items);
}

pub returns-in_err-method-clause-parses : goal.returns-in_err-method-clause-parses
returns-in_err-method-clause-parses c = handed_on (λ methods. map method_of methods.items) c.from_residual.result c.from_residual.ensures.1 (repeat_stop member_behind (not_behind c.loop-self.self (kind.Mark mark.CloseBrace) (λ e. false≢true (c.loop-self-test.ensures.1 e))) c.loop-self.invariant.grows c.in_err-method.ensures)

pub returns-in_err-push-clause-parses : goal.returns-in_err-push-clause-parses
returns-in_err-push-clause-parses c = no_memory (λ methods. map method_of methods.items) c.from_residual-in_err-push.result c.from_residual-in_err-push.ensures.1

pub loop-self-smaller : goal.loop-self-smaller
loop-self-smaller c = falls tt (member_some (method_of c.in_ok-method.method)) c.in_ok-method.ensures

pub loop-self-preserved : goal.loop-self-preserved
loop-self-preserved c = record {
  grows = grows_on method_of c.loop-self.methods.items c.push.new.self.items c.in_ok-method.method c.in_ok-push.ensures.items (repeat_more member_behind (not_behind c.loop-self.self (kind.Mark mark.CloseBrace) (λ e. false≢true (c.loop-self-test.ensures.1 e))) c.loop-self.invariant.grows c.in_ok-method.ensures);
  few = (let fall : length c.member.new.self < length c.loop-self.self = falls tt (member_some (method_of c.in_ok-method.method)) c.in_ok-method.ensures in omega (arith, fall, c.loop-self.invariant.few, ap (λ xs. length xs) c.in_ok-push.ensures.items, length-append c.loop-self.methods.items (c.in_ok-method.method ∷ [])));
}

pub returns-clause-parses : goal.returns-clause-parses
returns-clause-parses c = repeat_end (no_member c.loop-self.self (c.loop-self-test.ensures.0 refl)) c.loop-self.invariant.grows
