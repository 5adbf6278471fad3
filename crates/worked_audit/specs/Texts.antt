-- The text of a synchronizer of two flops, and its constraints in SDC.
use Rattle.std.specs.Prelude.{ℕ, List, codes}

abbrev pub netlist : List ℕ
netlist = codes "module m(input ca, cb, d, output q);\nreg a, s1, s2;\nalways @(posedge ca) a <= d;\nalways @(posedge cb) begin s1 <= a; s2 <= s1; end\nassign q = s2;\nendmodule\n"

-- two clocks that are asynchronous, and an input of the first one
abbrev pub sdc_text : List ℕ
sdc_text = codes "create_clock -name A -period 10 [get_ports ca]\ncreate_clock -name B -period 10 [get_ports cb]\nset_clock_groups -asynchronous -group A -group B\nset_input_delay 1 -clock A [get_ports d]\n"

-- the word of their file
abbrev pub sdc_word : List ℕ
sdc_word = codes "m.sdc"

-- what an audit prints of them
abbrev pub printed : List ℕ
printed = codes "cover a -> s1 two-flop 2\nclean crossings=1\n"
