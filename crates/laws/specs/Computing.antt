-- To unfold `definitions` is to unfold every definition of pcrl that computes: what a theorem by computation names.
use Rattle.std.specs.Prelude.{ℕ}
use Rattle.pcrl.specs.Text
use Rattle.pcrl.specs.Lists
use Rattle.pcrl.specs.Tests
use Rattle.pcrl.specs.Result
use Rattle.pcrl.specs.Bytes
use Rattle.pcrl.specs.Reader
use Rattle.pcrl.specs.Maybe
use Rattle.pcrl.specs.Tokens
use Rattle.pcrl.specs.Grammar
use Rattle.pcrl.specs.Print
use Rattle.pcrl.specs.Render
use Rattle.pcrl.specs.Counts
use Rattle.pcrl.specs.Names
use Rattle.pcrl.specs.Sorts
use Rattle.pcrl.specs.Circles
use Rattle.pcrl.specs.Sheet
use Rattle.pcrl.specs.Values
use Rattle.pcrl.specs.Parts
use Rattle.pcrl.specs.Table
use Rattle.pcrl.specs.Heads
use Rattle.pcrl.specs.Stream
use Rattle.pcrl.specs.Right
use Rattle.pcrl.specs.Decode
use Rattle.pcrl.specs.Blocks
use Rattle.pcrl.specs.Stack
use Rattle.pcrl.specs.Label
use Rattle.pcrl.specs.Steps
use Rattle.pcrl.specs.Ask
use Rattle.pcrl.specs.Terms
use Rattle.pcrl.specs.States
use Rattle.pcrl.specs.Records
use Rattle.pcrl.specs.Letters
use Rattle.pcrl.specs.Printer
use Rattle.pcrl.specs.Answers
use Rattle.pcrl.specs.Walk

unfoldable pub in_tests : ℕ
unfolding Tests.both? Tests.between? Tests.at_most? Tests.below? Tests.T? Tests.same? Tests.among Tests.distinct Tests.some? Tests.Every Tests.every? Tests.Each Tests.each? Result.question Result.question_of Result.after Result.both_checked Result.refusal Result.passed Bytes.short? Bytes.Printable Bytes.printable? Reader.bind Reader.keep Reader.one Reader.test Reader.pair Reader.view Reader.times Reader.each Reader.all Reader.counted Maybe.for_each native.Mathlib.Decide.ℕ_discrete native.Mathlib.Decide.dec_le native.Mathlib.Decide.dec_lt
in_tests = 0

unfoldable pub in_reading : ℕ
unfolding Tokens.words Tokens.punctuation Tokens.run Tokens.name_of Tokens.value_of Tokens.numeral_of Tokens.mark_of Tokens.first_token Tokens.before Tokens.followed Tokens.tokens_behind Tokens.tokens Tokens.is? Tokens.open_behind Tokens.most_open Tokens.Shallow Tokens.shallow? Grammar.on Grammar.fail Grammar.expect Grammar.a_name Grammar.a_numeral Grammar.on_numeral Grammar.data_term Grammar.data_given Grammar.choice Grammar.sort_line Grammar.numerals Grammar.one_or_two Grammar.func_line Grammar.act_line Grammar.parameters Grammar.proc_line Grammar.no_variable Grammar.none_in Grammar.init_line Grammar.lines Grammar.sheet Grammar.whole Grammar.parse Counts.Counted Counts.counted? Names.names_of Names.number_of Names.declared Names.new_variable Names.sort_of Names.equal_at Names.resolve_data Names.resolve_given Names.named Names.resolve_choice Names.sorts_of Names.resolve_func Names.resolve_act Names.resolve_params Names.resolve_proc Names.resolve_init Names.sizes_of Names.resolve_terms Names.resolve Sorts.binding Sorts.IsOperation Sorts.is_operation? Sorts.HasSort Sorts.has_sort? Sorts.arguments? Sorts.IsAct Sorts.is_act? Sorts.Sorted Sorts.sorted? Sorts.volume Sorts.Complete Sorts.complete? Sorts.RightlySorted Sorts.rightly_sorted? Circles.at_head Circles.NoCircle Circles.all_pass Circles.all_true Circles.passed_after Circles.guarded
in_reading = 0

unfoldable pub in_printing : ℕ
unfolding Text.digits Text.decimal Print.bracketed Print.joined Print.print_data Print.print_given Print.print_choice Print.line Print.print_sorts Print.print_values Print.print_sort Print.print_func Print.print_takes Print.print_act Print.print_param Print.print_params Print.print_proc Print.print_init Print.print_sheet Render.write Render.goes_on Render.between Render.render Letters.longest_run Letters.letters Letters.indexed Letters.older_name Letters.older_names Printer.numbered Printer.as_data Printer.as_negation Printer.as_comparison Printer.as_conjunction Printer.or_behind Printer.and_behind Printer.listed Printer.in_brackets Printer.applied Printer.operand Printer.shown_by Printer.shown Printer.side Printer.wanting Printer.choice_of Printer.right_of Printer.taken Printer.raw_data Printer.raw_act Printer.raw_call Printer.raw_sequence Printer.raw_conditional Printer.raw_sums Printer.raw_summand Printer.sort_line_of Printer.func_line_of Printer.act_line_of Printer.param_of Printer.proc_line_of Printer.init_line_of Printer.printed Printer.table_text
in_printing = 0

unfoldable pub in_tables : ℕ
unfolding Lists.tabulate Lists.together Sheet.list_of Sheet.operator Sheet.operation Sheet.size Sheet.sort_name Sheet.func Sheet.same_at Sheet.function Sheet.function_at Sheet.takes_of Sheet.params Sheet.right Values.place Values.apply Values.eval Values.put_data Values.except Values.put Values.or_var Values.these Values.only Parts.in_data Parts.in_list Parts.in_proc Parts.marks Parts.count Parts.marked Parts.as_params Parts.if_after Parts.new_parts Parts.new_count Parts.all_new_parts Parts.first_new Parts.kind_new Parts.kind_in Parts.kind Table.renewed Table.equation Table.params_of Table.summands_of Table.summand_count Table.nodes Heads.with_var Heads.with_cond Heads.with_calls Heads.look Heads.new_call Heads.calls_of Heads.heads_by Heads.heads Heads.fuel Heads.equation_of Heads.table_of Stream.codes Stream.encode_data Stream.encode_numbers Stream.encode_list Stream.encode_sort Stream.encode_sorts Stream.encode_func Stream.encode_action Stream.encode_sig Stream.encode_act Stream.encode_cond Stream.encode_call Stream.encode_summand Stream.encode_equations Stream.encode_start Stream.encode Right.SummandWithin Right.EquationWithin Right.Within Right.summand_within? Right.equation_within? Right.within? Right.RightSizes Right.RightFunc Right.free_name Right.RightName Right.RightAction Right.action_names Right.RightSig Right.token_name Right.RightSortName Right.RightNames Right.RightSorts Right.RightCond Right.RightCall Right.RightSummand Right.RightSummands Right.RightEquations Right.RightStart Right.RightTable Decode.node_of Decode.sorted_equal Decode.read_node Decode.arguments_of Decode.guard Decode.Fits Decode.fits? Decode.wants Decode.build Decode.read_terms Decode.first Decode.read_term Decode.read_sorts Decode.read_sizes Decode.to_func Decode.read_func Decode.to_action Decode.read_name Decode.read_action Decode.read_sort_name Decode.read_sort Decode.read_named_sorts Decode.named_sorts Decode.unnamed_sorts Decode.read_all_sorts Decode.layout_by Decode.names_by Decode.to_sig Decode.read_sig Decode.to_summand Decode.zip Decode.to_equations Decode.read_act Decode.read_cond Decode.read_call Decode.read_summand Decode.read_summands Decode.read_equations Decode.read_start Decode.to_table Decode.decode
in_tables = 0

unfoldable pub in_files : ℕ
unfolding Blocks.crc_bit Blocks.crc_byte Blocks.crc_from Blocks.crc Blocks.block_body Blocks.block Blocks.blocks_for Blocks.concatenated Blocks.file_of_stream Blocks.file_of Blocks.Room Blocks.room? Blocks.RightLength Blocks.right_length? Blocks.block_count Blocks.block_at Blocks.stream_at Blocks.RightBlock Blocks.RightBlocks Blocks.right_blocks? Blocks.stream_of Blocks.Filled Blocks.filled? Blocks.table_in Blocks.table_read
in_files = 0

unfoldable pub in_stacks : ℕ
unfolding Stack.InSorts Stack.in_sorts? Stack.used Stack.padded Stack.zero_frame Stack.RightFrame Stack.right_frame? Stack.RightStack Stack.IsZero Stack.is_zero? Stack.RightFrames Stack.right_frames? Stack.frames_of Stack.stack_of Label.label Records.filled Records.name_field Records.label_name Records.label_sorts Records.label_values Records.label_record Steps.Meets Steps.meets? Steps.values_of Steps.if_met Steps.call_frame Steps.outcome Steps.StackStep Steps.fired Steps.steps Ask.step_to Ask.chosen Ask.ask Ask.ask_all Ask.labels Terms.ClosedTerm States.Ended States.StateStep States.RightState States.frame_term States.term_of_frame States.term_of_stack States.stands_for
in_stacks = 0

unfoldable pub in_answers : ℕ
unfolding Answers.tokens_read Answers.tree_read Answers.sorted_read Answers.sheet_read Answers.table_made Answers.stream_filed Answers.file_made Answers.output_after Answers.stream_read Answers.table_checked Answers.text_printed Answers.table_printed Answers.start_stack Answers.reply Answers.started_in Answers.stack_read Answers.one_answer Answers.asked_in Answers.asked_all_in Walk.values_text Walk.label_text Walk.text_line Walk.step_line Walk.closing Walk.answer_lines Walk.walk_lines Walk.walk_made Walk.walk_text
in_answers = 0

unfoldable pub definitions : ℕ
unfolding in_tests in_reading in_printing in_tables in_files in_stacks in_answers
definitions = 0
