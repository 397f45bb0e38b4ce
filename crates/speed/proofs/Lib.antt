mod Sums
mod ExampleTrades
